-- Each call asks its questions in the table's order, and its own tests say what the table asks (`gyr_tested`, `acc_tested`, `tau_acc_tested`).
use Rattle.floats.specs.Prelude.{◌≡◌, refl, ap, ap₂, ◌∙◌, Bool, true, false, not, cond, ◌&&◌, ◌||◌, ℕ, T, Float, Option, Result, Ok, Err, Format, eq, le}
use lib.Ieee.Scale as scale
use Rattle.floats.specs.Notation.{zero}
use Rattle.floats.specs.Tests.{is_true}
use Rattle.algebra.specs.Quaternions as quaternions
use Rattle.algebra.specs.Matrices.{adjugate, determinant, divided, too_small, invert}
use Rattle.algebra.specs.declared.vector.Vector.{Vector}
use Rattle.algebra.specs.declared.matrix.Matrix.{Matrix}
use Rattle.algebra.specs.declared.matrix.NoInverse.{NoInverse}
use Rattle.algebra.specs.declared.matrix.NoInverse.TheVariants.{TooSmall, NotFinite}
use Rattle.limits.specs.Answers.{told, Kept}
use Rattle.limits.specs.Table.{first}
use Rattle.limits.specs.Limits.{gyr_taken, acc_taken, interval_taken, zero_sample, tau_taken, threshold_taken}
use Rattle.limits.proofs.Answers.{Says, done, refused, if, only_if, setting, then}
use Rattle.limits.proofs.Table.{exactly}
use Rattle.limits.specs.declared.updated.Tried.{Tried}
use Rattle.tilt.specs.Scalars.{radians}
use Rattle.inertial.specs.Told.{if_finite}
use Rattle.inertial.specs.Gyr.{update_gyr_with_ts}
use Rattle.inertial.specs.Kalman.{updated_bias, rotation, smoothed, widened, innovation, by_inverse, estimated, bias_step}
use Rattle.inertial.specs.Acc.{singular, update_acc}
use Rattle.inertial.specs.Setters as setters
use Rattle.inertial.specs.Setters.{with_params, with_rest_params, with_thresholds, with_bias, with_estimate}
use Rattle.inertial.specs.AllFinite.{all_finite}
use Rattle.inertial.specs.Calls as calls
use Rattle.inertial.specs.Answers.{gyr_rest_of, quat_of, after_gyr, acc_rest_of, inclination_of, bias_tried, bias_of, after_acc, at_tau_acc, after_tau_acc, measurement, to_invert, no_inverse, tau_acc_faults, faults, Answers}
use Rattle.inertial.specs.Types.{Inertial, Smooth, Measurement, Bias}
use Rattle.inertial.proofs.Steps.{gyr_fine, acc_fine, gyr_asked, acc_asked}
use Rattle.inertial.proofs.Tested.{gyr_tested, acc_tested, fits, tau_acc_tested}

module _ (w : Format) where
  -- ---- a gyro sample
  abbrev gyr_number : Vector → Float → Bool → ℕ
  gyr_number v ts finite = cond (not (gyr_taken w v)) 2 (cond (not (interval_taken w ts)) 3 (cond (not finite) 6 0))

  gyr_says : (f : Inertial) (v : Vector) (ts : Float)
      → Says (gyr_number v ts ((gyr_rest_of w f v).finite && (quat_of w f v ts).finite)) (after_gyr w f v ts) f (update_gyr_with_ts w f v ts)
  gyr_says f v ts =
      rw (gyr_asked w f v ts) (only_if (gyr_taken w v) (only_if (interval_taken w ts) (only_if (gyr_fine w f v ts) done refused) refused) refused)

  -- ---- an accelerometer sample
  abbrev unfit : Float → Bool
  unfit det = too_small det || not (scale.finite det)

  estimated_singular : (s : Smooth) (bias : Vector) (p : Matrix) (m : Measurement) (c : Float)
      → let x = innovation w p m.r m.w in
      singular (updated_bias s (estimated w bias p m c)) ≡ (le (zero w) m.w.0 && unfit (determinant x (adjugate x)))
  unfolding updated_bias estimated invert
  estimated_singular s bias p m c = go (le (zero w) m.w.0) (too_small det) (scale.finite det)
    where
      x : Matrix
      x = innovation w p m.r m.w

      det : Float
      det = determinant x (adjugate x)

      go : (measured small finite : Bool)
          → singular
          (updated_bias s
          (cond measured (by_inverse w bias p m c (cond small (Err TooSmall) (cond finite (Ok (divided w (adjugate x) det)) (Err NotFinite)))) (Ok (record { bias = bias; bias_p = p }))))
          ≡ (measured && (small || not finite))
      go true true finite = refl
      go true false true = refl
      go true false false = refl
      go false small finite = refl

  only_on : (on measured none : Bool) (t u : Result (Tried Bias) NoInverse) → singular t ≡ (measured && none) → singular u ≡ false → singular (cond on t u) ≡ (on && measured && none)
  only_on true measured none t u e z = e
  only_on false measured none t u e z = z

  acc_singular : (f : Inertial) (v : Vector) → singular (bias_tried w f v) ≡ no_inverse w f v
  unfolding bias_step no_inverse
  acc_singular f v =
      let i = inclination_of w f v in
      let r = rotation w (quaternions.times w i.inclination.acc_quat i.inclination.gyr_quat) in
      let s = smoothed w f.state.bias r f.params.tau_acc f.coeffs.acc_ts f.coeffs.acc_lp in
      let p = widened w f.state.bias.bias_p f.coeffs.bias in
      let c = radians w f.params.rest.bias_clip in
      let m = measurement w f v in
      let x = to_invert w f v in
      only_on (f.params.bias.motion_bias_est_enabled || f.params.rest.rest_bias_est_enabled) (le (zero w) m.w.0) (unfit (determinant x (adjugate x)))
      (updated_bias s (estimated w f.state.bias.bias p m c)) (Ok (record { finite = true; value = f.state.bias }))
      (estimated_singular s f.state.bias.bias p m c) refl

  abbrev acc_number : Vector → Bool → Bool → ℕ
  acc_number v none finite = cond (not (acc_taken w v)) 2 (cond (zero_sample w v) 1 (cond none 5 (cond (not finite) 6 0)))

  acc_says : (f : Inertial) (v : Vector)
      → let tests = (acc_rest_of w f v).finite && (inclination_of w f v).finite && (bias_of w f v).finite in
      Says (acc_number v (singular (bias_tried w f v)) tests) (after_acc w f v) f (update_acc w f v)
  acc_says f v =
      rw (acc_asked w f v)
      (only_if (acc_taken w v)
      (if (zero_sample w v) refused
      (if (singular (bias_tried w f v)) refused
      (only_if (acc_fine w f v) done refused)))
      refused)

  -- ---- the setters
  -- the value that it has changes nothing
  tau_acc_says : (f : Inertial) (tau : Float)
      → Says (cond (not (tau_taken w f.coeffs.acc_ts tau)) 4 (cond (eq f.params.tau_acc tau) 0 (cond (not (fits w f tau)) 6 0))) (after_tau_acc w f tau) f (setters.set_tau_acc w f tau)
  unfolding setters.set_tau_acc setters.retuned
  tau_acc_says f tau = only_if (tau_taken w f.coeffs.acc_ts tau) (go (eq f.params.tau_acc tau)) refused
    where
      go : (same : Bool)
          → Says (cond same 0 (cond (not (fits w f tau)) 6 0)) (cond same f (at_tau_acc w f tau)) f (cond same (told 0 f) (if_finite (fits w f tau) (at_tau_acc w f tau) f))
      go true = done
      go false = only_if (fits w f tau) done refused

  tau_acc_answered : (f : Inertial) (tau : Float) → T (all_finite f) → (setters.set_tau_acc w f tau).number ≡ first (tau_acc_faults w f tau)
  tau_acc_answered f tau h =
      (tau_acc_says f tau).number ∙ then (tau_taken w f.coeffs.acc_ts tau) 4 (λ t. go (eq f.params.tau_acc tau) (tau_acc_tested w f tau h t))
    where
      go : (same : Bool) → fits w f tau ≡ all_finite (at_tau_acc w f tau)
          → ◌≡◌ {A = ℕ} (cond same 0 (cond (not (fits w f tau)) 6 0)) (cond (not (all_finite (cond same f (at_tau_acc w f tau)))) 6 0)
      go true k = rw (is_true (all_finite f) h)
      go false k = rw k

  thresholds_says : (f : Inertial) (g a : Float)
      → Says (first (faults w f (calls.own (calls.set_rest_detection_thresholds g a)))) (with_params f (with_rest_params f.params (with_thresholds f.params.rest g a))) f (setters.set_rest_detection_thresholds w f g a)
  unfolding setters.set_rest_detection_thresholds
  thresholds_says f g a = setting (threshold_taken w g && threshold_taken w a) _ f

  bias_says : (f : Inertial) (b : Vector) (s : Option Float)
      → Says (first (faults w f (calls.own (calls.set_bias_estimate b s)))) (with_bias f (with_estimate w f.state.bias b s)) f (setters.set_bias_estimate w f b s)
  unfolding setters.set_bias_estimate
  bias_says f b s = setting (setters.bias_taken w f.params.rest.bias_clip b && setters.sigma_or_none_taken w s) _ f

  answered : (f : Inertial) (c : calls.Call) → T (all_finite f) → (calls.reply w f c).number ≡ first (faults w f c)
  answered f (calls.own (calls.update_gyr v)) h = (gyr_says f v _).number ∙ ap (gyr_number v _) (gyr_tested w f v _ h)
  answered f (calls.own (calls.update_gyr_with_ts v ts)) h = (gyr_says f v ts).number ∙ ap (gyr_number v ts) (gyr_tested w f v ts h)
  answered f (calls.own (calls.update_acc v)) h = (acc_says f v).number ∙ ap₂ (acc_number v) (acc_singular f v) (acc_tested w f v h)
  answered f (calls.own (calls.set_tau_acc tau)) h = tau_acc_answered f tau h
  answered f (calls.own (calls.set_rest_detection_thresholds g a)) h = (thresholds_says f g a).number
  answered f (calls.own (calls.set_bias_estimate b s)) h = (bias_says f b s).number
  answered f (calls.own (calls.set_motion_bias_est_enabled on)) h = refl
  answered f (calls.own (calls.set_rest_bias_est_enabled on)) h = refl
  answered f (calls.set_mag_dist_rejection_enabled on) h = refl
  answered f calls.reset_state h = refl

  kept : (f : Inertial) (c : calls.Call) → Kept f (calls.reply w f c)
  kept f (calls.own (calls.update_gyr v)) = (gyr_says f v f.coeffs.gyr_ts).kept
  kept f (calls.own (calls.update_gyr_with_ts v ts)) = (gyr_says f v ts).kept
  kept f (calls.own (calls.update_acc v)) = (acc_says f v).kept
  kept f (calls.own (calls.set_tau_acc tau)) = (tau_acc_says f tau).kept
  kept f (calls.own (calls.set_rest_detection_thresholds g a)) = (thresholds_says f g a).kept
  kept f (calls.own (calls.set_bias_estimate b s)) = (bias_says f b s).kept
  kept f (calls.own (calls.set_motion_bias_est_enabled on)) = done.kept
  kept f (calls.own (calls.set_rest_bias_est_enabled on)) = done.kept
  kept f (calls.set_mag_dist_rejection_enabled on) = done.kept
  kept f calls.reset_state = done.kept

  pub answers : Answers w
  answers = record {
    by_table = λ f c h. exactly (faults w f c) _ (answered f c h);
    kept = kept;
    gyr_leaves = λ f v ts. (gyr_says f v ts).done;
    acc_leaves = λ f v. (acc_says f v).done;
    tau_acc_leaves = λ f tau. (tau_acc_says f tau).done;
  }
