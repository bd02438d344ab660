-- A call leaves the half as it was, or stores what it would leave where its tests let it. So what is kept by all that is stored holds after any calls.
use Rattle.floats.specs.Prelude.{Bool, ◌&&◌, List, [], ◌∷◌, T, Float, Format, eq, Option}
use Rattle.floats.specs.Tests.{keeps}
use Rattle.algebra.specs.declared.vector.Vector.{Vector}
use Rattle.limits.specs.Answers.{Told}
use Rattle.limits.specs.Limits.{tau_taken, threshold_taken}
use Rattle.inertial.specs.Gyr as gyr
use Rattle.inertial.specs.Setup.{taken, new}
use Rattle.inertial.specs.Setters as setters
use Rattle.inertial.specs.Answers.{gyr_rest_of, quat_of, after_gyr, acc_rest_of, inclination_of, bias_of, after_acc, at_tau_acc}
use Rattle.inertial.specs.Calls.{Call, own, update_gyr, update_acc, update_gyr_with_ts, set_tau_acc, set_motion_bias_est_enabled, set_rest_bias_est_enabled, set_mag_dist_rejection_enabled, set_rest_detection_thresholds, set_bias_estimate, reset_state, reply, run}
use Rattle.inertial.specs.Types.{Inertial, InertialParams}
use Rattle.inertial.proofs.Steps as steps
use Rattle.inertial.proofs.Tested.{fits}

module _ (w : Format) (P : Inertial → Type 0) where
  abbrev estimate_taken : Inertial → Vector → Option Float → Bool
  estimate_taken f v sigma = setters.bias_taken w f.params.rest.bias_clip v && setters.sigma_or_none_taken w sigma

  -- P holds of a construction, and of what each call stores in a half of which it holds
  pub record Invariant : Type 0 where
    pub built : (p : InertialParams) (gyr_ts acc_ts : Float) → T (taken w p gyr_ts acc_ts) → P (new w p gyr_ts acc_ts)
    pub gyr : (f : Inertial) → P f → (v : Vector) (ts : Float) → T ((gyr_rest_of w f v).finite && (quat_of w f v ts).finite) → P (after_gyr w f v ts)
    pub acc : (f : Inertial) → P f → (v : Vector) → T ((acc_rest_of w f v).finite && (inclination_of w f v).finite && (bias_of w f v).finite) → P (after_acc w f v)
    pub tau_acc : (f : Inertial) → P f → (tau : Float) → P (at_tau_acc w f tau)
    pub motion : (f : Inertial) → P f → (on : Bool) → P (setters.set_motion_bias_est_enabled f on)
    pub rest : (f : Inertial) → P f → (on : Bool) → P (setters.set_rest_bias_est_enabled w f on)
    pub dist : (f : Inertial) → P f → (on : Bool) → P (setters.set_mag_dist_rejection_enabled f on)
    pub thresholds : (f : Inertial) → P f → (g a : Float) → T (threshold_taken w g && threshold_taken w a)
        → P (setters.with_params f (setters.with_rest_params f.params (setters.with_thresholds f.params.rest g a)))
    pub bias : (f : Inertial) → P f → (v : Vector) (sigma : Option Float) → T (estimate_taken f v sigma) → P (setters.with_bias f (setters.with_estimate w f.state.bias v sigma))
    pub reset : (f : Inertial) → P f → P (setters.reset_state w f)

  module _ (i : Invariant) where
    abbrev Left : Told Inertial → Type 0
    Left t = P t.left

    gyr_keeps : (f : Inertial) → P f → (v : Vector) (ts : Float) → Left (gyr.update_gyr_with_ts w f v ts)
    gyr_keeps f h v ts = steps.gyr_keeps w f v Left (λ _. h) ts (i.gyr f h v ts)

    call_keeps : (f : Inertial) (c : Call) → P f → Left (reply w f c)
    unfolding setters.set_tau_acc setters.retuned setters.set_rest_detection_thresholds setters.set_bias_estimate
    call_keeps f (own (update_gyr v)) h = gyr_keeps f h v f.coeffs.gyr_ts
    call_keeps f (own (update_gyr_with_ts v ts)) h = gyr_keeps f h v ts
    call_keeps f (own (update_acc v)) h = steps.acc_keeps w f v Left (λ _. h) (i.acc f h v)
    call_keeps f (own (set_tau_acc tau)) h =
        keeps Left (tau_taken w f.coeffs.acc_ts tau) _ _
        (λ _. keeps Left (eq f.params.tau_acc tau) _ _ (λ _. h) (keeps Left (fits w f tau) _ _ (λ _. i.tau_acc f h tau) h))
        h
    call_keeps f (own (set_motion_bias_est_enabled on)) h = i.motion f h on
    call_keeps f (own (set_rest_bias_est_enabled on)) h = i.rest f h on
    call_keeps f (set_mag_dist_rejection_enabled on) h = i.dist f h on
    call_keeps f (own (set_rest_detection_thresholds g a)) h = keeps Left (threshold_taken w g && threshold_taken w a) _ _ (i.thresholds f h g a) h
    call_keeps f (own (set_bias_estimate v sigma)) h = keeps Left (estimate_taken f v sigma) _ _ (i.bias f h v sigma) h
    call_keeps f reset_state h = i.reset f h

    run_keeps : (f : Inertial) (cs : List Call) → P f → P (run w f cs)
    run_keeps f [] h = h
    run_keeps f (c ∷ cs) h = run_keeps (reply w f c).left cs (call_keeps f c h)

    pub reached : (p : InertialParams) (gyr_ts acc_ts : Float) (cs : List Call) → T (taken w p gyr_ts acc_ts) → P (run w (new w p gyr_ts acc_ts) cs)
    reached p gyr_ts acc_ts cs t = run_keeps (new w p gyr_ts acc_ts) cs (i.built p gyr_ts acc_ts t)
