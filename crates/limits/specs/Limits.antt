-- What the reader will take: each limit once. Ends are included; a NaN is outside; -0 counts as 0.
use Rattle.std.specs.Prelude.{◌≡◌, refl, Bool, ◌&&◌, ◌||◌, List, [], ◌∷◌, map, ℕ, Float}
use Rattle.std.specs.Float.{Format, binary32, binary64}
use Rattle.std.specs.Float.Ieee.{neg, le, eq, round, of_bits}
use Rattle.floats.specs.Notation.{zero, one}
use Rattle.floats.specs.Decimals.{decimal, ten, ninety, hundred, half_turn, two_hundred, thousand, ten_thousand, million, two_million, one_point_six, tenth, ten_thousandth}
use Rattle.algebra.specs.declared.vector.Vector.{Vector}

-- ---- the limits
abbrev pub gyr_limit : Format → Float
gyr_limit = two_hundred

abbrev pub acc_limit : Format → Float
acc_limit = thousand

abbrev pub mag_limit : Format → Float
mag_limit = million

abbrev pub shortest_interval : Format → Float
shortest_interval = ten_thousandth

abbrev pub longest_interval : Format → Float
longest_interval = one

abbrev pub longest : Format → Float
longest = ten_thousand

abbrev pub least_tau : Format → Float
least_tau = ten_thousandth

abbrev pub sigma_limit : Format → Float
sigma_limit = hundred

abbrev pub least_forgetting_time : Format → Float
least_forgetting_time = tenth

abbrev pub least_threshold : Format → Float
least_threshold = ten_thousandth

abbrev pub threshold_limit : Format → Float
threshold_limit = ninety

abbrev pub norm_threshold_limit : Format → Float
norm_threshold_limit = ten

abbrev pub dip_threshold_limit : Format → Float
dip_threshold_limit = half_turn

abbrev pub min_gyr_limit : Format → Float
min_gyr_limit = thousand

abbrev pub rejection_factor_limit : Format → Float
rejection_factor_limit = thousand

abbrev pub ref_norm_limit : Format → Float
ref_norm_limit = two_million

abbrev pub ref_dip_limit : Format → Float
ref_dip_limit = one_point_six

-- ---- the tests
abbrev pub within : Float → Float → Float → Bool
within lo hi x = le lo x && le x hi

unfoldable pub all_within : Float → Vector → Bool
all_within limit v = within (neg limit) limit v.0 && within (neg limit) limit v.1 && within (neg limit) limit v.2

module _ (w : Format) where
  abbrev pub gyr_taken : Vector → Bool
  gyr_taken = all_within (gyr_limit w)

  abbrev pub acc_taken : Vector → Bool
  acc_taken = all_within (acc_limit w)

  abbrev pub mag_taken : Vector → Bool
  mag_taken = all_within (mag_limit w)

  abbrev pub interval_taken : Float → Bool
  interval_taken = within (shortest_interval w) (longest_interval w)

  -- all zero, of either sign
  unfoldable pub zero_sample : Vector → Bool
  zero_sample v = eq v.0 (zero w) && eq v.1 (zero w) && eq v.2 (zero w)

  -- a filter's time constant, at the interval ts
  abbrev pub tau_taken : Float → Float → Bool
  tau_taken ts = within ts (longest w)

  -- -10000 to 0, or from least up
  unfoldable pub tau_or_off_taken : Float → Float → Bool
  tau_or_off_taken least tau = within (neg (longest w)) (zero w) tau || within least (longest w) tau

  abbrev pub gain_tau_taken : Float → Bool
  gain_tau_taken = tau_or_off_taken (least_tau w)

  abbrev pub sigma_taken : Float → Bool
  sigma_taken = within (zero w) (sigma_limit w)

  abbrev pub vertical_factor_taken : Float → Bool
  vertical_factor_taken = within (zero w) (one w)

  abbrev pub forgetting_time_taken : Float → Bool
  forgetting_time_taken = within (least_forgetting_time w) (longest w)

  -- the bias clip and both rest thresholds
  abbrev pub threshold_taken : Float → Bool
  threshold_taken = within (least_threshold w) (threshold_limit w)

  abbrev pub duration_taken : Float → Bool
  duration_taken = within (zero w) (longest w)

  abbrev pub norm_threshold_taken : Float → Bool
  norm_threshold_taken = within (zero w) (norm_threshold_limit w)

  abbrev pub dip_threshold_taken : Float → Bool
  dip_threshold_taken = within (zero w) (dip_threshold_limit w)

  abbrev pub min_gyr_taken : Float → Bool
  min_gyr_taken = within (zero w) (min_gyr_limit w)

  abbrev pub rejection_factor_taken : Float → Bool
  rejection_factor_taken = within (one w) (rejection_factor_limit w)

  -- what the setter of the magnetic reference takes
  abbrev pub ref_norm_taken : Float → Bool
  ref_norm_taken = within (zero w) (ref_norm_limit w)

  abbrev pub ref_dip_taken : Float → Bool
  ref_dip_taken = within (neg (ref_dip_limit w)) (ref_dip_limit w)

-- ---- each limit is the value nearest to its decimal, in either format
abbrev limits : List (Format → Float)
limits =
    gyr_limit
    ∷ acc_limit
    ∷ mag_limit
    ∷ shortest_interval
    ∷ longest_interval
    ∷ longest
    ∷ least_tau
    ∷ sigma_limit
    ∷ least_forgetting_time
    ∷ least_threshold
    ∷ threshold_limit
    ∷ norm_threshold_limit
    ∷ dip_threshold_limit
    ∷ min_gyr_limit
    ∷ rejection_factor_limit
    ∷ ref_norm_limit
    ∷ ref_dip_limit
    ∷ []

abbrev decimals : List (ℕ × ℕ)
decimals =
    (200, 1)
    ∷ (1000, 1)
    ∷ (1000000, 1)
    ∷ (1, 10000)
    ∷ (1, 1)
    ∷ (10000, 1)
    ∷ (1, 10000)
    ∷ (100, 1)
    ∷ (1, 10)
    ∷ (1, 10000)
    ∷ (90, 1)
    ∷ (10, 1)
    ∷ (180, 1)
    ∷ (1000, 1)
    ∷ (1000, 1)
    ∷ (2000000, 1)
    ∷ (16, 10)
    ∷ []

pub limits_are : (w : Format) → map (λ (c : Format → Float). c w) limits ≡ map (λ (d : ℕ × ℕ). decimal w d.0 d.1) decimals
unfolding round of_bits
limits_are binary32 = refl
limits_are binary64 = refl
