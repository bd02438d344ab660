-- The worked values of document 01 that are marked P, and what document 02 changed or added, each below its line. Numbers are binary64; the calls are made on the fresh house filter.
use Rattle.std.specs.Prelude.{◌≡◌, [], ◌∷◌, ℕ, ◌+◌, ◌^◌, None, Some, Ok, Err, Float}
use Rattle.std.specs.Float.{nan, binary64}
use Rattle.std.specs.Float.Ieee.{neg, of_bits, to_bits}
use Rattle.floats.specs.Decimals.{decimal, hundredth}
use Rattle.numbers.specs.Root.{root}
use Rattle.numbers.specs.HalfAngles.{largest}
use Rattle.algebra.specs.Values.{whole, part}
use Rattle.algebra.specs.Vectors.{vector}
use Rattle.algebra.specs.Quaternions.{quaternion, rotate, times}
use Rattle.algebra.specs.Matrices.{rows, invert}
use Rattle.algebra.specs.declared.vector.Vector.{Vector}
use Rattle.algebra.specs.declared.matrix.Matrix.{Matrix}
use Rattle.algebra.specs.declared.matrix.NoInverse.TheVariants.{TooSmall, NotFinite}
use Rattle.filters.specs.Channels.{averaging, fresh, filter_initial_state}
use Rattle.filters.specs.Banks.{filter_vec3}
use Rattle.filters.specs.declared.coeffs.Coeffs.{Coeffs}
use Rattle.limits.specs.Answers.{told}
use Rattle.inertial.specs.Told.{state_of, with_state}
use Rattle.inertial.specs.Setters.{with_rest_params}
use Rattle.inertial.specs.declared.types.Bias.{Bias}
use Rattle.tilt.specs.declared.types.RestParams.{RestParams}
use Rattle.vqf.specs.Build as build
use Rattle.vqf.specs.Update.{update_gyr, update_gyr_with_ts, update_acc}
use Rattle.vqf.specs.Setters.{set_tau_acc, set_bias_estimate}
use Rattle.vqf.specs.Asked.{quat_6d}
use Rattle.vqf.specs.declared.types.VQF.{VQF}

abbrev house : VQF
house = build.fresh binary64

abbrev diagonal : Float → Float → Float → Matrix
diagonal a b c = rows (vector a (whole 0) (whole 0)) (vector (whole 0) b (whole 0)) (vector (whole 0) (whole 0) c)

-- n on the diagonal, and everywhere
abbrev pub scaled : ℕ → Matrix
scaled n = diagonal (whole n) (whole n) (whole n)

abbrev pub filled : ℕ → Matrix
filled n = let row = vector (whole n) (whole n) (whole n) in rows row row row

-- the house filter with the covariance p
abbrev pub house_at : Matrix → VQF
house_at p =
    let i = house.inertial in
    let b = i.state.bias in
    let bias : Bias = record {
      bias = b.bias;
      bias_p = p;
      motion_bias_est_rlp_state = b.motion_bias_est_rlp_state;
      motion_bias_est_bias_lp_state = b.motion_bias_est_bias_lp_state;
    } in
    record { inertial = with_state i (state_of i.state.inclination bias i.state.rest); magnetic = house.magnetic }

abbrev pub level : Vector
level = vector (whole 0) (whole 0) (decimal binary64 981 100)

abbrev next_above : Float → Float
next_above x = of_bits binary64 (to_bits binary64 x + 1)

-- the house filter with another `bias_clip`
abbrev house_clipped : Float → VQF
house_clipped clip =
    let p = house.inertial.params in
    let rest : RestParams = record {
      rest_bias_est_enabled = p.rest.rest_bias_est_enabled;
      mag_dist_rejection_enabled = p.rest.mag_dist_rejection_enabled;
      bias_clip = clip;
      rest_min_t = p.rest.rest_min_t;
      rest_filter_tau = p.rest.rest_filter_tau;
      rest_th_gyr = p.rest.rest_th_gyr;
      rest_th_acc = p.rest.rest_th_acc;
    } in
    let ts = hundredth binary64 in
    build.built binary64 (record { inertial = with_rest_params p rest; magnetic = house.magnetic.params }) ts ts ts

-- `set_bias_estimate` without a standard deviation: it stores the three numbers; or it answers 4 and leaves the filter as it was, whichever of the three x is
abbrev Takes : VQF → Vector → Type 0
Takes f v = let told = set_bias_estimate binary64 f v None in (told.number ≡ 0) × (told.left.inertial.state.bias.bias ≡ v)

abbrev Refuses : VQF → Float → Type 0
Refuses f x =
    (set_bias_estimate binary64 f (vector x (whole 0) (whole 0)) None ≡ told 4 f)
    × (set_bias_estimate binary64 f (vector (whole 0) x (whole 0)) None ≡ told 4 f)
    × (set_bias_estimate binary64 f (vector (whole 0) (whole 0) x) None ≡ told 4 f)

abbrev pub thrice : Float → Vector
thrice x = vector x x x

-- 2, 90 and 0.0001 degrees a second in radians
abbrev house_clip : Float
house_clip = decimal binary64 3490658503988659 (10 ^ 17)

abbrev quarter_turn : Float
quarter_turn = decimal binary64 15707963267948966 (10 ^ 16)

abbrev least_clip : Float
least_clip = decimal binary64 17453292519943296 (10 ^ 22)

-- the house filter with `bias_clip` 90 and its bias at the lower end
abbrev pub most_biased : VQF
most_biased = (set_bias_estimate binary64 (house_clipped (whole 90)) (thrice (neg quarter_turn)) None).left

pub record BiasValues : Type 0 where
  -- "A component exactly on the clip is taken", in either sign; the next binary64 beyond and a NaN give 4
  pub at_clip : Takes house (thrice house_clip) × Takes house (thrice (neg house_clip))
  pub beyond : Refuses house (next_above house_clip) × Refuses house (neg (next_above house_clip)) × Refuses house nan
  pub minus_zero : Takes house (thrice (neg (whole 0)))
  -- with `bias_clip` 90 a component of 1.5 is taken, which the house refuses, and up to PI/2
  pub at_ninety :
      let f = house_clipped (whole 90) in
      Takes f (thrice (decimal binary64 3 2)) × Refuses house (decimal binary64 3 2) × Takes f (thrice quarter_turn) × Refuses f (next_above quarter_turn)
  -- with `bias_clip` 0.0001 the clip is `bias_clip * (PI / 180)`; `bias_clip * PI / 180` is the next binary64 below, while at 2 and 90 the two are equal
  pub at_least : let f = house_clipped (decimal binary64 1 (10 ^ 4)) in Takes f (thrice least_clip) × Refuses f (next_above least_clip)
  -- the standard deviation is taken up to 100, as before
  pub sigma_taken : (set_bias_estimate binary64 house (thrice house_clip) (Some (whole 100))).number ≡ 0
  pub sigma_above : (set_bias_estimate binary64 house (thrice house_clip) (Some (next_above (whole 100)))).number ≡ 4

pub record Worked : Type 0 where
  -- "(1,2,3,4) times (5,6,7,8) = (-60,12,30,24)"
  pub product : times binary64 (quaternion (whole 1) (whole 2) (whole 3) (whole 4)) (quaternion (whole 5) (whole 6) (whole 7) (whole 8)) ≡ quaternion (neg (whole 60)) (whole 12) (whole 30) (whole 24)
  -- "(0.5,0.5,0.5,0.5) rotates [1,2,3] to [3,1,2]"
  pub rotated : rotate binary64 (quaternion (part 2) (part 2) (part 2) (part 2)) (vector (whole 1) (whole 2) (whole 3)) ≡ vector (whole 3) (whole 1) (whole 2)
  -- "inverse of diagonal 2, 4, 8 is diagonal 0.5, 0.25, 0.125"
  pub inverse : invert binary64 (diagonal (whole 2) (whole 4) (whole 8)) ≡ Ok (diagonal (part 2) (part 4) (part 8))
  -- "diagonal 1, 1, 2^-52 has no inverse; with 2^-51 it has one"
  pub no_inverse : invert binary64 (diagonal (whole 1) (whole 1) (part (2 ^ 52))) ≡ Err TooSmall
  pub an_inverse : invert binary64 (diagonal (whole 1) (whole 1) (part (2 ^ 51))) ≡ Ok (diagonal (whole 1) (whole 1) (whole (2 ^ 51)))
  -- a determinant of 2^1023 is divided by; one that overflows, to either side, and one that is a NaN are "not finite"
  pub large_inverse : invert binary64 (diagonal (whole 1) (whole 1) (whole (2 ^ 1023))) ≡ Ok (diagonal (whole 1) (whole 1) (part (2 ^ 1023)))
  pub overflow : invert binary64 (diagonal (whole 2) (whole 1) (whole (2 ^ 1023))) ≡ Err NotFinite
  pub overflow_below : invert binary64 (diagonal (neg (whole 2)) (whole 1) (whole (2 ^ 1023))) ≡ Err NotFinite
  pub no_number : invert binary64 (diagonal (whole 1) (whole 1) nan) ≡ Err NotFinite
  -- "averaging, interval 0.5, tau 1: [1,2,4] answers itself, then [3,4,8] answers [2,3,6] and averaging ends"
  pub averaged :
      (k : Coeffs)
      → let first = filter_vec3 binary64 (vector (whole 1) (whole 2) (whole 4)) (whole 1) (part 2) k (fresh ∷ fresh ∷ fresh ∷ []) in
      let second = filter_vec3 binary64 (vector (whole 3) (whole 4) (whole 8)) (whole 1) (part 2) k first.channels in
      (first.y ≡ vector (whole 1) (whole 2) (whole 4))
      × (first.channels ≡ averaging (whole 1) (whole 1) ∷ averaging (whole 1) (whole 2) ∷ averaging (whole 1) (whole 4) ∷ [])
      × (second.y ≡ vector (whole 2) (whole 3) (whole 6))
      × (second.channels ≡ filter_initial_state (whole 2) k ∷ filter_initial_state (whole 3) k ∷ filter_initial_state (whole 6) k ∷ [])
  -- "now 200 is taken and the next value above gives 2"; and so does a NaN
  pub gyr_taken : (update_gyr binary64 house (vector (whole 200) (whole 0) (whole 0))).number ≡ 0
  pub gyr_above : (update_gyr binary64 house (vector (next_above (whole 200)) (whole 0) (whole 0))).number ≡ 2
  pub gyr_nan : (update_gyr binary64 house (vector nan (whole 0) (whole 0))).number ≡ 2
  -- the fastest turn is taken, 200 in all three places for one second against a bias of a quarter turn a second; and half its angle, 174.5654302800634
  pub gyr_fastest : (update_gyr_with_ts binary64 most_biased (thrice (whole 200)) (whole 1)).number ≡ 0
  pub largest_half_angle : largest binary64 ≡ decimal binary64 1745654302800634 (10 ^ 13)
  -- "gyro step with interval 0 gives 3"
  pub no_interval : (update_gyr_with_ts binary64 house (vector (whole 1) (whole 2) (whole 3)) (whole 0)).number ≡ 3
  -- "accelerometer [0,-0,0] gives 1"
  pub no_sample : (update_acc binary64 house (vector (whole 0) (neg (whole 0)) (whole 0))).number ≡ 1
  -- "accelerometer [0,0,-9.81]: `acc_quat` becomes (0,1,0,0)"; and the sensor points down
  pub face_down :
      let told = update_acc binary64 house (vector (whole 0) (whole 0) (neg (decimal binary64 981 100))) in
      (told.number ≡ 0)
      × (told.left.inertial.state.inclination.acc_quat ≡ quaternion (whole 0) (whole 1) (whole 0) (whole 0))
      × (rotate binary64 (quat_6d binary64 told.left) (vector (whole 0) (whole 0) (whole 1)) ≡ vector (whole 0) (whole 0) (neg (whole 1)))
  -- "the accelerometer step gives 5 for either": taken at a determinant of 2^1002; at 2^1200, which is infinite, and at a NaN 5 and the filter as it was
  pub acc_large : (update_acc binary64 (house_at (scaled (2 ^ 334))) level).number ≡ 0
  pub acc_overflow : update_acc binary64 (house_at (scaled (2 ^ 400))) level ≡ told 5 (house_at (scaled (2 ^ 400)))
  pub acc_no_number : update_acc binary64 (house_at (filled (2 ^ 600))) level ≡ told 5 (house_at (filled (2 ^ 600)))
  -- "`tau_acc` 0.01 at the house interval is taken; 0.009 gives 4"
  pub tau_taken : (set_tau_acc binary64 house (decimal binary64 1 100)).number ≡ 0
  pub tau_below : (set_tau_acc binary64 house (decimal binary64 9 1000)).number ≡ 4
  -- what `set_bias_estimate` takes
  pub bias : BiasValues
  -- "square root of 2.25 is 1.5; of -0 is -0"
  pub root_taken : root binary64 (decimal binary64 9 4) ≡ decimal binary64 3 2
  pub root_of_zero : root binary64 (neg (whole 0)) ≡ neg (whole 0)
