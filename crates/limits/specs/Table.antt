-- The table of refusals: what can be wrong with a call, and the number that is given for it. The order is 2, 3, 4, 1, 5, 6.
use Rattle.std.specs.Prelude.{◌≡◌, Bool, cond, false, not, ◌&&◌, List, [], ◌∷◌, ℕ, eqb}

pub record Faults : Type 0 where
  -- "a sample component NaN, infinite or over its limit"
  pub bad_sample : Bool
  -- "interval of a gyro step outside limits"
  pub bad_interval : Bool
  -- "any setting, setter value or constructor interval outside limits"
  pub bad_setting : Bool
  -- "accelerometer or magnetometer sample all zero, either sign"
  pub zero_sample : Bool
  -- "accelerometer step, matrix to invert has determinant in [-2^-52, 2^-52]", or one that is a NaN or infinite
  pub singular : Bool
  -- "a number the call would store is NaN or infinite"
  pub not_finite : Bool

abbrev pub faultless : Faults
faultless = record { bad_sample = false; bad_interval = false; bad_setting = false; zero_sample = false; singular = false; not_finite = false }

-- a setter that stores what it is given where it lies within limits
abbrev pub setting_fault : Bool → Faults
setting_fault bad = record { bad_sample = false; bad_interval = false; bad_setting = bad; zero_sample = false; singular = false; not_finite = false }

-- n is given for these faults, each number exactly when its row says
pub record Exactly (x : Faults) (n : ℕ) : Type 0 where
  pub two : eqb n 2 ≡ x.bad_sample
  pub three : eqb n 3 ≡ (not x.bad_sample && x.bad_interval)
  pub four : eqb n 4 ≡ (not x.bad_sample && not x.bad_interval && x.bad_setting)
  pub one : eqb n 1 ≡ (not x.bad_sample && not x.bad_interval && not x.bad_setting && x.zero_sample)
  pub five : eqb n 5 ≡ (not x.bad_sample && not x.bad_interval && not x.bad_setting && not x.zero_sample && x.singular)
  pub six : eqb n 6 ≡ (not x.bad_sample && not x.bad_interval && not x.bad_setting && not x.zero_sample && not x.singular && x.not_finite)
  pub done : eqb n 0 ≡ (not x.bad_sample && not x.bad_interval && not x.bad_setting && not x.zero_sample && not x.singular && not x.not_finite)

-- a number for each row of faults
abbrev pub AllExactly : List Faults → List ℕ → Type 0
AllExactly [] [] = Unit {0}
AllExactly [] (n ∷ ns) = ⊥
AllExactly (x ∷ xs) [] = ⊥
AllExactly (x ∷ xs) (n ∷ ns) = Exactly x n × AllExactly xs ns

-- the first fault's number
abbrev pub first : Faults → ℕ
first x =
    cond x.bad_sample 2
    (cond x.bad_interval 3 (cond x.bad_setting 4 (cond x.zero_sample 1 (cond x.singular 5 (cond x.not_finite 6 0)))))
