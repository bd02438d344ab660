-- Both tests compare the sizes of the components with one and the same number, the clip in radians. And what the calls leave of the settings is what the
-- diary of rest tells (RestHistory), in which nothing is written on the clip.
use Rattle.floats.specs.Prelude.{◌≡◌, refl, ap, ◌∙◌, Bool, true, false, not, ◌&&◌, ◌||◌, Bool_beq, List, [], ◌∷◌, ℕ, T, Float, Format, binary32, binary64, div, le, of_bits, finite}
use Rattle.floats.specs.Notation.{two, pi}
use Rattle.floats.specs.Decimals.{half_turn}
use Rattle.floats.specs.Tests.{both, keeps}
use Rattle.floats.specs.Order.{nought, Within, within_finite, each_finite}
use Rattle.floats.specs.Products.{finite_number}
use Rattle.floats.specs.Intervals.{none, known, Expr, var, lit, mul', div', bound, inside, bounded}
use Rattle.algebra.specs.declared.vector.Vector.{Vector}
use Rattle.limits.specs.Limits.{threshold_taken, least_threshold, threshold_limit}
use Rattle.limits.specs.BySize.{beyond, all_numbers}
use Rattle.limits.proofs.BySize.{by_size}
use Rattle.tilt.specs.Scalars.{square, radians}
use Rattle.tilt.specs.Gyr.{gyr_stirred}
use Rattle.inertial.specs.Setup.{new}
use Rattle.inertial.specs.Setters.{bias_taken}
use Rattle.inertial.specs.Calls.{Call, own, update_gyr, update_acc, update_gyr_with_ts, set_tau_acc, set_motion_bias_est_enabled, set_rest_bias_est_enabled, set_mag_dist_rejection_enabled, set_rest_detection_thresholds, set_bias_estimate, reset_state, Answered, answered, answers}
use Rattle.tilt.specs.RestHistory.{Diary, watched}
use Rattle.inertial.specs.RestHistory.{if_accepted, opened, noted, next, written}
use Rattle.inertial.specs.BiasLimit.{BiasLimit}
use Rattle.inertial.specs.declared.types.Inertial.{Inertial}
use Rattle.tilt.specs.declared.types.RestParams.{RestParams}
use Rattle.inertial.proofs.RestHistory.{rest_from_history}

-- ---- the limit
abbrev radians' : Format → Expr
radians' w = mul' (var 0) (div' (lit (pi w)) (lit (half_turn w)))

abbrev pub quarter : Format → Float
quarter w = div w (pi w) (two w)

-- from 0 to a quarter turn a second
pub limit_within : (w : Format) (clip : Float) → T (threshold_taken w clip) → Within (radians w clip) nought (quarter w)
unfolding bound inside div le of_bits
limit_within binary32 clip t = let h = simp both at t in bounded binary32 (known clip (least_threshold binary32) (threshold_limit binary32) h none) (radians' binary32) nought (quarter binary32) tt
limit_within binary64 clip t = let h = simp both at t in bounded binary64 (known clip (least_threshold binary64) (threshold_limit binary64) h none) (radians' binary64) nought (quarter binary64) tt

pub limit_finite : (w : Format) (clip : Float) → T (threshold_taken w clip) → T (finite (radians w clip))
unfolding div of_bits
limit_finite w clip t = within_finite (radians w clip) nought (quarter w) tt (each_finite quarter tt w) (limit_within w clip t)

-- the clip is one that a construction takes
abbrev pub ClipTaken : Format → Inertial → Type 0
ClipTaken w f = T (threshold_taken w f.params.rest.bias_clip)

-- ---- the gyro step's test, where the deviation is below the threshold
beyond_alone : (stirred x y z : Bool) → T (not stirred) → (x || y || z) ≡ (stirred || x || y || z)
beyond_alone true x y z h = absurd h
beyond_alone false x y z h = refl

module _ (w : Format) where
  as_the_gyro_step : (p : RestParams) (v : Vector) (d : Float)
      → T (threshold_taken w p.bias_clip) → T (not (le (square w (radians w p.rest_th_gyr)) d))
      → bias_taken w p.bias_clip v ≡ (all_numbers v && not (gyr_stirred w p d v))
  unfolding gyr_stirred
  as_the_gyro_step p v d t quiet =
      let clip = radians w p.bias_clip in
      by_size.all clip v (finite_number clip (limit_finite w p.bias_clip t))
      ∙ ap (λ (b : Bool). all_numbers v && not b)
      (beyond_alone (le (square w (radians w p.rest_th_gyr)) d) (beyond clip v.0) (beyond clip v.1) (beyond clip v.2) quiet)

-- ---- the diary
abbrev clip_of : Diary → Float
clip_of d = d.settings.bias_clip

abbrev Same : Diary → Diary → Type 0
Same d e = clip_of e ≡ clip_of d

noted_keeps : (d : Diary) (c : Call) → Same d (noted d c)
noted_keeps d (own (update_gyr v)) = keeps (Same d) (watched d.settings) _ d (λ _. refl) refl
noted_keeps d (own (update_gyr_with_ts v ts)) = keeps (Same d) (watched d.settings) _ d (λ _. refl) refl
noted_keeps d (own (update_acc v)) = keeps (Same d) d.settings.rest_bias_est_enabled _ d (λ _. refl) refl
noted_keeps d (own (set_rest_bias_est_enabled on)) = keeps (Same d) (Bool_beq d.settings.rest_bias_est_enabled on) d _ (λ _. refl) refl
noted_keeps d (set_mag_dist_rejection_enabled on) = refl
noted_keeps d (own (set_rest_detection_thresholds g a)) = refl
noted_keeps d reset_state = refl
noted_keeps d (own (set_tau_acc tau)) = refl
noted_keeps d (own (set_motion_bias_est_enabled on)) = refl
noted_keeps d (own (set_bias_estimate v sigma)) = refl

next_keeps : (d : Diary) (c : Call) (n : ℕ) → Same d (if_accepted n (noted d c) d)
next_keeps d c ℕ.zero = noted_keeps d c
next_keeps d c (ℕ.suc n) = refl

written_keeps : (d : Diary) (history : List Answered) → Same d (written d history)
written_keeps d [] = refl
written_keeps d (a ∷ later) = written_keeps (next d a) later ∙ next_keeps d a.call a.number

pub bias_limit : (w : Format) → BiasLimit w
bias_limit w = record {
  as_the_gyro_step = as_the_gyro_step w;
  kept = λ p gyr_ts acc_ts calls.
      ap (λ (s : RestParams). s.bias_clip) (rest_from_history w p gyr_ts acc_ts calls).holds.settings
      ∙ written_keeps (opened p gyr_ts acc_ts) (answered calls (answers w (new w p gyr_ts acc_ts) calls));
}
