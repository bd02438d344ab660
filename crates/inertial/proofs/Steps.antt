-- A sample is asked some questions in order, and is told what its step leaves, or the half as it was. So what holds of both holds of what is told.
use Rattle.floats.specs.Prelude.{◌≡◌, refl, Bool, true, false, cond, ◌&&◌, ℕ, suc, T, Float, Result, Ok, Err, Format}
use Rattle.floats.specs.Tests.{keeps}
use Rattle.algebra.specs.declared.vector.Vector.{Vector}
use Rattle.limits.specs.Answers.{Told, told}
use Rattle.limits.specs.Limits.{gyr_taken, acc_taken, interval_taken, zero_sample}
use Rattle.tilt.specs.Gyr.{ToldGyr, told_gyr, gyr_step, update_gyr}
use Rattle.inertial.specs.Told.{state_of, with_state}
use Rattle.inertial.specs.Gyr.{put_back, update_gyr_with_ts}
use Rattle.inertial.specs.Acc.{singular, left, acc_settled, acc_step, update_acc}
use Rattle.inertial.specs.Answers.{gyr_rest_of, quat_of, after_gyr, acc_rest_of, inclination_of, bias_tried, bias_of, after_acc}
use Rattle.inertial.specs.Types.{Inertial, Bias}
use Rattle.algebra.specs.declared.matrix.NoInverse.{NoInverse}
use Rattle.limits.specs.declared.updated.Tried.{Tried}

abbrev pub asked_gyr : Bool → Bool → Bool → Inertial → Inertial → Told Inertial
asked_gyr taken timely finite next f = cond taken (cond timely (cond finite (told 0 next) (told 6 f)) (told 3 f)) (told 2 f)

abbrev pub asked_acc : Bool → Bool → Bool → Bool → Inertial → Inertial → Told Inertial
asked_acc taken nil none finite next f = cond taken (cond nil (told 1 f) (cond none (told 5 f) (cond finite (told 0 next) (told 6 f)))) (told 2 f)

module _ (w : Format) (f : Inertial) (v : Vector) where
  abbrev pub gyr_fine : Float → Bool
  gyr_fine ts = (gyr_rest_of w f v).finite && (quat_of w f v ts).finite

  abbrev pub acc_fine : Bool
  acc_fine = (acc_rest_of w f v).finite && (inclination_of w f v).finite && (bias_of w f v).finite

  pub gyr_asked : (ts : Float) → update_gyr_with_ts w f v ts ≡ asked_gyr (gyr_taken w v) (interval_taken w ts) (gyr_fine ts) (after_gyr w f v ts) f
  unfolding update_gyr_with_ts update_gyr gyr_step
  gyr_asked ts = go (gyr_taken w v) (interval_taken w ts) (gyr_fine ts)
    where
      kept : ℕ → ToldGyr
      kept n = told_gyr n f.state.rest f.state.inclination.gyr_quat

      go : (taken timely finite : Bool)
          → put_back f (cond taken (cond timely (cond finite (told_gyr 0 (gyr_rest_of w f v).value (quat_of w f v ts).value) (kept 6)) (kept 3)) (kept 2))
          ≡ asked_gyr taken timely finite (after_gyr w f v ts) f
      go true true true = refl
      go true true false = refl
      go true false finite = refl
      go false timely finite = refl

  -- the last of an accelerometer step, whichever the bias is
  settled_asked : (b : Result (Tried Bias) NoInverse)
      → let t = left f.state.bias b in
      acc_settled f (acc_rest_of w f v) (inclination_of w f v) b
      ≡ cond (singular b) (told 5 f)
      (cond ((acc_rest_of w f v).finite && (inclination_of w f v).finite && t.finite)
      (told 0 (with_state f (state_of (inclination_of w f v).inclination t.value (acc_rest_of w f v).value))) (told 6 f))
  unfolding acc_settled
  settled_asked (Err e) = refl
  settled_asked (Ok b) = refl

  pub acc_asked : update_acc w f v ≡ asked_acc (acc_taken w v) (zero_sample w v) (singular (bias_tried w f v)) acc_fine (after_acc w f v) f
  unfolding update_acc acc_step
  acc_asked = rw settled_asked

  module _ (P : Told Inertial → Type 0) (refused : (n : ℕ) → P (told (suc n) f)) where
    pub gyr_keeps : (ts : Float) → (T (gyr_fine ts) → P (told 0 (after_gyr w f v ts))) → P (update_gyr_with_ts w f v ts)
    gyr_keeps ts done =
        rw (gyr_asked ts)
        (keeps P (gyr_taken w v) _ _ (λ _. keeps P (interval_taken w ts) _ _ (λ _. keeps P (gyr_fine ts) _ _ done (refused 5)) (refused 2)) (refused 1))

    pub acc_keeps : (T acc_fine → P (told 0 (after_acc w f v))) → P (update_acc w f v)
    acc_keeps done =
        rw acc_asked
        (keeps P (acc_taken w v) _ _
        (λ _. keeps P (zero_sample w v) _ _ (λ _. refused 0) (keeps P (singular (bias_tried w f v)) _ _ (λ _. refused 4) (keeps P acc_fine _ _ done (refused 5))))
        (refused 1))
