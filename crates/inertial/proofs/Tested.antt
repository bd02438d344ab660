-- A gyro and an accelerometer step, and a change of `tau_acc`, test exactly the numbers that they store; all else is kept. So, on a filter that holds
-- finite numbers, the tests say whether what the call would leave is finite.
use Rattle.floats.specs.Prelude.{◌≡◌, Bool, true, ◌&&◌, ◌||◌, T, Float, Result, Ok, Err, Format, of_bits}
use lib.Ieee.Scale as scale
use Rattle.floats.specs.Tests.{both, alike, keeps}
use Rattle.floats.specs.Order.{within_finite, each_finite}
use Rattle.algebra.specs.Quaternions as quaternions
use Rattle.algebra.specs.declared.matrix.NoInverse.{NoInverse}
use Rattle.algebra.specs.declared.vector.Vector.{Vector}
use Rattle.filters.specs.Coefficients.{finite_coeffs}
use Rattle.filters.specs.Banks.{finite_channels}
use Rattle.filters.specs.declared.coeffs.Coeffs.{Coeffs}
use Rattle.limits.specs.Limits.{longest, tau_taken}
use Rattle.limits.specs.declared.updated.Tried.{Tried}
use Rattle.tilt.proofs.Tested.{gyr_rest_tested, acc_rest_tested, predicted_tested}
use Rattle.inertial.specs.Answers.{gyr_rest_of, quat_of, after_gyr, acc_rest_of, inclination_of, bias_of, after_acc, new_lp, at_tau_acc}
use Rattle.inertial.specs.AllFinite.{finite_params, finite_coefficients, all_finite}
use Rattle.inertial.specs.Setters.{with_tau_acc, with_acc_lp, adapted_bias}
use Rattle.tilt.specs.Setters.{adapted_inclination}
use Rattle.tilt.specs.Scalars.{radians}
use Rattle.tilt.specs.Acc.{finite_inclination, acc_lowpassed, inclined}
use Rattle.inertial.specs.Acc.{left}
use Rattle.inertial.specs.Kalman.{finite_bias, updated_bias, rotation, smoothed, measured, widened, estimated, bias_step}
use Rattle.inertial.specs.Types.{Bias, Inertial, InertialCoefficients, InertialParams, Smooth, Estimate}
use Rattle.tilt.specs.declared.types.Inclination.{Inclination}
use Rattle.tilt.specs.declared.types.Rest.{Rest}
use Rattle.inertial.proofs.Parts.{parts, whole, state_parts, whole_state, bias_parts, whole_bias, put_state}

module _ (w : Format) where
  -- ---- the bias
  abbrev BiasTested : Tried Bias → Type 0
  BiasTested t = (T t.finite → T (finite_bias t.value)) × (T (finite_bias t.value) → T t.finite)

  updated_bias_tested : (b : Bias) (s : Smooth) (k : Result Estimate NoInverse) → T (finite_bias b) → BiasTested (left b (updated_bias s k))
  unfolding updated_bias
  updated_bias_tested b s (Err e) h = (λ _. h, λ _. tt)
  updated_bias_tested b s (Ok n) h = (λ g. g, λ g. g)

  bias_step_tested : (b : Bias) (p : InertialParams) (k : InertialCoefficients) (i : Inclination) (r : Rest) (a : Vector) → T (finite_bias b) → BiasTested (left b (bias_step w b p k i r a))
  unfolding bias_step
  bias_step_tested b p k i r a h =
      let m = rotation w (quaternions.times w i.acc_quat i.gyr_quat) in
      let s = smoothed w b m p.tau_acc k.acc_ts k.acc_lp in
      let e = estimated w b.bias (widened w b.bias_p k.bias) (measured w s p k r a b.bias) (radians w p.rest.bias_clip) in
      keeps (λ (t : Result (Tried Bias) NoInverse). BiasTested (left b t)) (p.bias.motion_bias_est_enabled || p.rest.rest_bias_est_enabled)
      (updated_bias s e) (Ok (record { finite = true; value = b })) (λ _. updated_bias_tested b s e h) (λ _. h, λ _. tt)

  -- ---- the steps
  pub gyr_tested : (f : Inertial) (gyr : Vector) (ts : Float) → T (all_finite f)
      → ((gyr_rest_of w f gyr).finite && (quat_of w f gyr ts).finite) ≡ all_finite (after_gyr w f gyr ts)
  unfolding finite_inclination
  gyr_tested f gyr ts h =
      let s = state_parts _ (parts f h).state in
      let r = gyr_rest_tested w f.state.rest f.params.rest f.coeffs.gyr_ts f.coeffs.rest_gyr_lp gyr (s.gyr_rest, s.acc_rest) in
      let q = predicted_tested w f.state.inclination.gyr_quat f.state.bias.bias gyr ts s.gyr_quat in
      alike _ _
      (λ t.
      let u = simp both at t in
      let rest = r.0 u.0 in
      put_state f h _ (whole_state _ (record { gyr_quat = q.0 u.1; inclination = s.inclination; bias = s.bias; gyr_rest = rest.0; acc_rest = rest.1 })))
      (λ t. let v = state_parts _ (parts (after_gyr w f gyr ts) t).state in simp both (r.1 (v.gyr_rest, v.acc_rest), q.1 v.gyr_quat))

  pub acc_tested : (f : Inertial) (acc : Vector) → T (all_finite f)
      → ((acc_rest_of w f acc).finite && (inclination_of w f acc).finite && (bias_of w f acc).finite) ≡ all_finite (after_acc w f acc)
  unfolding inclined acc_lowpassed
  acc_tested f acc h =
      let s = state_parts _ (parts f h).state in
      let r = acc_rest_tested w f.state.rest f.params.rest f.coeffs.acc_ts f.coeffs.rest_acc_lp acc (s.gyr_rest, s.acc_rest) in
      let b = bias_step_tested f.state.bias f.params f.coeffs (inclination_of w f acc).inclination (acc_rest_of w f acc).value (inclination_of w f acc).acc_earth s.bias in
      alike _ _
      (λ t.
      let u = simp both at t in
      let rest = r.0 u.0.0 in
      put_state f h _ (whole_state _ (record { gyr_quat = s.gyr_quat; inclination = u.0.1; bias = b.0 u.1; gyr_rest = rest.0; acc_rest = rest.1 })))
      (λ t. let v = state_parts _ (parts (after_acc w f acc) t).state in simp both ((r.1 (v.gyr_rest, v.acc_rest), v.inclination), b.1 v.bias))

  -- ---- a change of `tau_acc`
  abbrev pub fits : Inertial → Float → Bool
  fits f tau =
      let s = (at_tau_acc w f tau).state in
      finite_coeffs (new_lp w f tau)
      && finite_channels 3 s.inclination.acc_lp_state
      && finite_channels 9 s.bias.motion_bias_est_rlp_state
      && finite_channels 2 s.bias.motion_bias_est_bias_lp_state

  params_tested : (p : InertialParams) (tau : Float) → T (finite_params p) → T (scale.finite tau) → T (finite_params (with_tau_acc p tau))
  unfolding finite_params
  params_tested p tau h t = let q = simp both at h in simp both ((t, q.0.1), q.1)

  acc_lp_finite : (k : InertialCoefficients) (c : Coeffs) → T (finite_coefficients k) → T (finite_coeffs c) → T (finite_coefficients (with_acc_lp k c))
  unfolding finite_coefficients
  acc_lp_finite k c h t = let q = simp both at h in simp both ((((q.0.0.0.0, t), q.0.0.1), q.0.1), q.1)

  acc_lp_tested : (k : InertialCoefficients) (c : Coeffs) → T (finite_coefficients (with_acc_lp k c)) → T (finite_coeffs c)
  unfolding finite_coefficients
  acc_lp_tested k c h = (simp both at h).0.0.0.1

  acc_ts_finite : (k : InertialCoefficients) → T (finite_coefficients k) → T (scale.finite k.acc_ts)
  unfolding finite_coefficients
  acc_ts_finite k h = (simp both at h).0.0.0.0.1

  pub tau_acc_tested : (f : Inertial) (tau : Float) → T (all_finite f) → T (tau_taken w f.coeffs.acc_ts tau) → fits f tau ≡ all_finite (at_tau_acc w f tau)
  unfolding finite_inclination adapted_inclination adapted_bias of_bits
  tau_acc_tested f tau h t =
      let a = parts f h in
      let s = state_parts _ a.state in
      let b = bias_parts _ s.bias in
      let i = simp both at s.inclination in
      let finite_tau = within_finite tau f.coeffs.acc_ts (longest w) (acc_ts_finite f.coeffs a.coeffs) (each_finite longest tt w) (simp both at t) in
      alike _ _
      (λ g.
      let u = simp both at g in
      whole _ (record {
        params = params_tested f.params tau a.params finite_tau;
        coeffs = acc_lp_finite f.coeffs _ a.coeffs u.0.0.0;
        state = whole_state _ (record {
          gyr_quat = s.gyr_quat;
          inclination = simp both ((i.0.0, u.0.0.1), i.1);
          bias = whole_bias _ (record { bias = b.bias; covariance = b.covariance; rotation = u.0.1; lowpassed = u.1 });
          gyr_rest = s.gyr_rest;
          acc_rest = s.acc_rest;
        });
      }))
      (λ g.
      let u = parts (at_tau_acc w f tau) g in
      let v = state_parts _ u.state in
      let c = bias_parts _ v.bias in
      let j = simp both at v.inclination in
      simp both (((acc_lp_tested f.coeffs _ u.coeffs, j.0.1), c.rotation), c.lowpassed))
