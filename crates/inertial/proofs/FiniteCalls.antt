-- A call on the inertial half stores what it was given where that lies within finite limits, fresh groups, or what it tested to be finite.
use Rattle.floats.specs.Prelude.{Bool, ◌&&◌, Bool_beq, subst, T, Float, Format, binary32, binary64, of_bits, le, neg, eq, finite, Option, None, Some}
use Rattle.floats.specs.Notation.{zero, pi}
use Rattle.floats.specs.Decimals.{hundred, half_turn}
use Rattle.floats.specs.Tests.{both, keeps}
use Rattle.floats.specs.Order.{nought, Within, within_finite, between_finite, neg_finite}
use Rattle.floats.specs.Intervals.{none, known, Expr, var, lit, mul', div', bound, is_finite}
use Rattle.algebra.specs.Vectors as vectors
use Rattle.algebra.specs.Matrices as matrices
use Rattle.algebra.specs.declared.vector.Vector.{Vector}
use Rattle.algebra.specs.declared.matrix.Matrix.{Matrix}
use Rattle.limits.specs.Answers.{Told}
use Rattle.limits.specs.Limits.{all_within, tau_taken, threshold_taken, sigma_taken, sigma_limit, least_threshold, threshold_limit}
use Rattle.tilt.specs.Scalars.{radians}
use Rattle.inertial.specs.Gyr.{update_gyr_with_ts}
use Rattle.inertial.specs.Acc.{update_acc}
use Rattle.inertial.specs.Setup.{fresh_state}
use Rattle.inertial.specs.AllFinite.{finite_rest_params, finite_bias_params, finite_params, all_finite}
use Rattle.inertial.specs.Setters.{with_rest_params, with_switches, with_thresholds, with_motion_switch, retuned, variance, bias_taken, sigma_or_none_taken, covariance_after, with_estimate, set_tau_acc, set_motion_bias_est_enabled, set_rest_bias_est_enabled, set_mag_dist_rejection_enabled, set_rest_detection_thresholds, set_bias_estimate, reset_state}
use Rattle.inertial.specs.Types.{Inertial, InertialParams}
use Rattle.tilt.specs.declared.types.RestParams.{RestParams}
use Rattle.inertial.proofs.Parts.{Parts, parts, StateParts, state_parts, whole_state, BiasParts, bias_parts, whole_bias, p0_finite, put_params, put_state, put_bias}
use Rattle.inertial.proofs.Construction.{fresh_finite}
use Rattle.inertial.proofs.BiasLimit.{limit_finite, ClipTaken}
use Rattle.inertial.proofs.Steps.{gyr_keeps, acc_keeps}
use Rattle.inertial.proofs.Tested.{gyr_tested, acc_tested, fits, tau_acc_tested}

abbrev Fine : Inertial → Type 0
Fine f = T (all_finite f)

abbrev Left : Told Inertial → Type 0
Left t = Fine t.left

abbrev scaled' : Format → Expr
scaled' w = mul' (var 0) (div' (mul' (lit (half_turn w)) (lit (hundred w))) (lit (pi w)))

variance_finite : (w : Format) (s : Float) → T (sigma_taken w s) → T (finite (variance w s))
unfolding variance bound le of_bits
variance_finite binary32 s t = let h = simp both at t in is_finite binary32 (known s (zero binary32) (sigma_limit binary32) h none) (mul' (scaled' binary32) (scaled' binary32)) tt
variance_finite binary64 s t = let h = simp both at t in is_finite binary64 (known s (zero binary64) (sigma_limit binary64) h none) (mul' (scaled' binary64) (scaled' binary64)) tt

-- ---- settings; flags are no numbers
with_rest : (p : InertialParams) (r : RestParams) → T (finite_params p) → T (finite_rest_params r) → T (finite_params (with_rest_params p r))
unfolding finite_params
with_rest p r h k = let q = simp both at h in simp both ((q.0.0, k), q.1)

switched : (p : InertialParams) (rest mag : Bool) → T (finite_params p) → T (finite_params (with_rest_params p (with_switches p.rest rest mag)))
unfolding finite_params finite_rest_params
switched p rest mag h = h

switched_motion : (p : InertialParams) (on : Bool) → T (finite_params p) → T (finite_params (with_motion_switch p on))
unfolding finite_params finite_bias_params
switched_motion p on h = h

module _ (w : Format) where
  -- ---- fresh groups
  fresh_parts : (p0 : Float) → T (finite p0) → StateParts (fresh_state w p0)
  fresh_parts p0 h = state_parts _ (fresh_finite w p0 h)

  fresh_bias : (p0 : Float) → T (finite p0) → BiasParts (fresh_state w p0).bias
  fresh_bias p0 h = bias_parts _ (fresh_parts p0 h).bias

  -- ---- what lies within its limits
  threshold_finite : (x : Float) → T (threshold_taken w x) → T (finite x)
  unfolding of_bits
  threshold_finite x t = between_finite least_threshold threshold_limit tt w x (simp both at t)

  bias_finite : (clip : Float) (v : Vector) → T (threshold_taken w clip) → T (bias_taken w clip v) → T (vectors.finite v)
  unfolding all_within vectors.finite
  bias_finite clip v k t =
      let h = simp both at t in
      let limit = radians w clip in
      let l = limit_finite w clip k in
      let one : (x : Float) → Within x (neg limit) limit → T (finite x) = λ x. within_finite x _ _ (neg_finite limit l) l in
      simp both ((one _ h.0.0, one _ h.0.1), one _ h.1)

  covariance_finite : (m : Matrix) (sigma : Option Float) → T (matrices.finite m) → T (sigma_or_none_taken w sigma) → T (matrices.finite (covariance_after w m sigma))
  unfolding sigma_or_none_taken fresh_state
  covariance_finite m None h t = h
  covariance_finite m (Some s) h t = (fresh_bias _ (variance_finite w s t)).covariance

  module _ (f : Inertial) (h : Fine f) where
    own : Parts f
    own = parts f h

    of_state : StateParts f.state
    of_state = state_parts _ own.state

    of_bias : BiasParts f.state.bias
    of_bias = bias_parts _ of_state.bias

  -- ---- the setters
  pub set_motion_finite : (f : Inertial) (on : Bool) → Fine f → Fine (set_motion_bias_est_enabled f on)
  unfolding set_motion_bias_est_enabled fresh_state
  set_motion_finite f on h =
      let n = fresh_bias nought tt in
      keeps Fine (Bool_beq f.params.bias.motion_bias_est_enabled on) f _ (λ _. h)
      (put_bias _ (put_params f h _ (switched_motion f.params on (own f h).params)) _
      (whole_bias _ (record { bias = (of_bias f h).bias; covariance = (of_bias f h).covariance; rotation = n.rotation; lowpassed = n.lowpassed })))

  pub set_rest_finite : (f : Inertial) (on : Bool) → Fine f → Fine (set_rest_bias_est_enabled w f on)
  unfolding set_rest_bias_est_enabled fresh_state
  set_rest_finite f on h =
      let n = fresh_parts nought tt in
      let s = of_state f h in
      keeps Fine (Bool_beq f.params.rest.rest_bias_est_enabled on) f _ (λ _. h)
      (put_state _ (put_params f h _ (switched f.params on _ (own f h).params)) _
      (whole_state _ (record { gyr_quat = s.gyr_quat; inclination = s.inclination; bias = s.bias; gyr_rest = n.gyr_rest; acc_rest = n.acc_rest })))

  pub set_dist_finite : (f : Inertial) (on : Bool) → Fine f → Fine (set_mag_dist_rejection_enabled f on)
  unfolding set_mag_dist_rejection_enabled
  set_dist_finite f on h = put_params f h _ (switched f.params _ on (own f h).params)

  pub set_thresholds_finite : (f : Inertial) (g a : Float) → Fine f → Left (set_rest_detection_thresholds w f g a)
  unfolding set_rest_detection_thresholds finite_rest_params finite_params
  set_thresholds_finite f g a h =
      keeps Left (threshold_taken w g && threshold_taken w a) _ _
      (λ t.
      let u = (both (threshold_taken w g) (threshold_taken w a)).0 t in
      let q = simp both at (own f h).params in
      put_params f h _ (with_rest f.params (with_thresholds f.params.rest g a) (own f h).params (simp both ((q.0.1.0.0, threshold_finite g u.0), threshold_finite a u.1))))
      h

  pub set_bias_finite : (f : Inertial) (v : Vector) (sigma : Option Float) → ClipTaken w f → Fine f → Left (set_bias_estimate w f v sigma)
  unfolding set_bias_estimate with_estimate
  set_bias_finite f v sigma k h =
      let clip = f.params.rest.bias_clip in
      keeps Left (bias_taken w clip v && sigma_or_none_taken w sigma) _ _
      (λ t.
      let u = (both (bias_taken w clip v) (sigma_or_none_taken w sigma)).0 t in
      let b = of_bias f h in
      put_bias f h _ (whole_bias _ (record { bias = bias_finite clip v k u.0; covariance = covariance_finite _ sigma b.covariance u.1; rotation = b.rotation; lowpassed = b.lowpassed })))
      h

  pub set_tau_acc_finite : (f : Inertial) (tau : Float) → Fine f → Left (set_tau_acc w f tau)
  unfolding set_tau_acc retuned
  set_tau_acc_finite f tau h =
      keeps Left (tau_taken w f.coeffs.acc_ts tau) _ _
      (λ t. keeps Left (eq f.params.tau_acc tau) _ _ (λ e. h) (keeps Left (fits w f tau) _ _ (subst T (tau_acc_tested w f tau h t)) h))
      h

  pub reset_finite : (f : Inertial) → Fine f → Fine (reset_state w f)
  unfolding reset_state
  reset_finite f h = put_state f h _ (fresh_finite w _ (p0_finite _ (own f h).coeffs))

  -- ---- the steps
  pub update_gyr_finite : (f : Inertial) (gyr : Vector) (ts : Float) → T (all_finite f) → T (all_finite (update_gyr_with_ts w f gyr ts).left)
  update_gyr_finite f gyr ts h = gyr_keeps w f gyr Left (λ _. h) ts (subst T (gyr_tested w f gyr ts h))

  pub update_acc_finite : (f : Inertial) (acc : Vector) → T (all_finite f) → T (all_finite (update_acc w f acc).left)
  update_acc_finite f acc h = acc_keeps w f acc Left (λ _. h) (subst T (acc_tested w f acc h))
