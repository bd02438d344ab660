-- The settings are read alike from the numbers of an image and from the first of them.
use Rattle.floats.specs.Prelude.{◌≡◌, refl, Bool, true, false, cond, List, [], ◌∷◌, ℕ, zero, suc, take, Float, nan}
use Rattle.image.specs.Image.{SETTINGS}
use Rattle.image.specs.Unpack.{number, inertial_params, magnetic_params}

abbrev below : ℕ → ℕ → Bool
below i zero = false
below zero (suc n) = true
below (suc i) (suc n) = below i n

same : (b : Bool) (x : Float) → x ≡ cond b x x
same true x = refl
same false x = refl

number_take : (n i : ℕ) (s : List Float) → number (take n s) i ≡ cond (below i n) (number s i) nan
number_take zero i s = refl
number_take (suc n) i [] = same (below i (suc n)) nan
number_take (suc n) zero (x ∷ s) = refl
number_take (suc n) (suc i) (x ∷ s) = number_take n i s

pub inertial_settings : (s : List Float) → inertial_params (take SETTINGS s) ≡ inertial_params s
unfolding inertial_params
inertial_settings s = simp number_take

pub magnetic_settings : (s : List Float) → magnetic_params (take SETTINGS s) ≡ magnetic_params s
unfolding magnetic_params
magnetic_settings s = simp number_take
