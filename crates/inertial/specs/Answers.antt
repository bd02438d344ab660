-- The table of refusals for the calls of the inertial half, over the format w: what is wrong with a call, told from the call and the filter.
use Rattle.std.specs.Prelude.{◌≡◌, Bool, false, not, cond, ◌&&◌, ◌||◌, T, Float, Result}
use Rattle.std.specs.Float.{Format, binary64}
use Rattle.std.specs.Float.Ieee.{neg, eq, le}
use Rattle.std.specs.Float.Ieee.Scale as scale
use Rattle.floats.specs.Notation.{zero}
use Rattle.algebra.specs.Vectors.{epsilon}
use Rattle.algebra.specs.Quaternions as quaternions
use Rattle.algebra.specs.Matrices.{adjugate, determinant}
use Rattle.algebra.specs.declared.vector.Vector.{Vector}
use Rattle.algebra.specs.declared.matrix.Matrix.{Matrix}
use Rattle.algebra.specs.declared.matrix.NoInverse.{NoInverse}
use Rattle.filters.specs.Coefficients.{filter_coeffs}
use Rattle.filters.specs.declared.coeffs.Coeffs.{Coeffs}
use Rattle.algebra.specs.declared.quaternion.Quaternion.{Quaternion}
use Rattle.limits.specs.Answers.{Kept}
use Rattle.limits.specs.Table.{Faults, faultless, setting_fault, Exactly}
use Rattle.limits.specs.Limits.{within, gyr_taken, acc_taken, interval_taken, zero_sample, tau_taken, threshold_taken}
use Rattle.limits.specs.declared.updated.Tried.{Tried}
use Rattle.tilt.specs.declared.types.Rest.{Rest}
use Rattle.inertial.specs.Told.{state_of, with_state}
use Rattle.inertial.specs.Gyr.{with_gyr_quat}
use Rattle.tilt.specs.Gyr.{gyr_rest, predicted}
use Rattle.inertial.specs.Kalman.{rotation, smoothed, measured, widened, innovation, bias_step}
use Rattle.inertial.specs.Acc.{left}
use Rattle.tilt.specs.Acc.{acc_rest, inclined}
use Rattle.inertial.specs.Setters.{with_tau_acc, with_acc_lp, adapted_bias, bias_taken, sigma_or_none_taken}
use Rattle.tilt.specs.Setters.{adapted_inclination}
use Rattle.inertial.specs.AllFinite.{all_finite}
use Rattle.inertial.specs.Calls.{Call, own, update_gyr, update_acc, update_gyr_with_ts, set_tau_acc, set_motion_bias_est_enabled, set_rest_bias_est_enabled, set_mag_dist_rejection_enabled, set_rest_detection_thresholds, set_bias_estimate, reset_state, reply}
use Rattle.inertial.specs.declared.types.Bias.{Bias}
use Rattle.inertial.specs.declared.types.Inertial.{Inertial}
use Rattle.tilt.specs.declared.acc.TriedInclination.{TriedInclination}
use Rattle.inertial.specs.declared.kalman.Measurement.{Measurement}

module _ (w : Format) where
  -- ---- What a call would leave, were nothing wrong with it.
  abbrev pub gyr_rest_of : Inertial → Vector → Tried Rest
  gyr_rest_of f gyr = gyr_rest w f.state.rest f.params.rest f.coeffs.gyr_ts f.coeffs.rest_gyr_lp gyr

  abbrev pub quat_of : Inertial → Vector → Float → Tried Quaternion
  quat_of f gyr ts = predicted w f.state.inclination.gyr_quat f.state.bias.bias gyr ts

  abbrev pub after_gyr : Inertial → Vector → Float → Inertial
  after_gyr f gyr ts = with_state f (state_of (with_gyr_quat f.state.inclination (quat_of f gyr ts).value) f.state.bias (gyr_rest_of f gyr).value)

  abbrev pub acc_rest_of : Inertial → Vector → Tried Rest
  acc_rest_of f acc = acc_rest w f.state.rest f.params.rest f.coeffs.acc_ts f.coeffs.rest_acc_lp acc

  abbrev pub inclination_of : Inertial → Vector → TriedInclination
  inclination_of f acc = inclined w f.state.inclination f.params.tau_acc f.coeffs.acc_ts f.coeffs.acc_lp acc

  abbrev pub bias_tried : Inertial → Vector → Result (Tried Bias) NoInverse
  bias_tried f acc =
      let i = inclination_of f acc in
      bias_step w f.state.bias f.params f.coeffs i.inclination (acc_rest_of f acc).value i.acc_earth

  abbrev pub bias_of : Inertial → Vector → Tried Bias
  bias_of f acc = left f.state.bias (bias_tried f acc)

  abbrev pub after_acc : Inertial → Vector → Inertial
  after_acc f acc = with_state f (state_of (inclination_of f acc).inclination (bias_of f acc).value (acc_rest_of f acc).value)

  abbrev pub new_lp : Inertial → Float → Coeffs
  new_lp f tau = filter_coeffs tau f.coeffs.acc_ts

  abbrev pub at_tau_acc : Inertial → Float → Inertial
  at_tau_acc f tau =
      let old = f.coeffs.acc_lp in
      record {
        params = with_tau_acc f.params tau;
        coeffs = with_acc_lp f.coeffs (new_lp f tau);
        state = state_of (adapted_inclination f.state.inclination old (new_lp f tau)) (adapted_bias w f.state.bias old (new_lp f tau)) f.state.rest;
      }

  -- the value that it has changes nothing
  abbrev pub after_tau_acc : Inertial → Float → Inertial
  after_tau_acc f tau = cond (eq f.params.tau_acc tau) f (at_tau_acc f tau)

  -- ---- The matrix that an accelerometer sample has inverted, W + R P R^T.
  abbrev pub measurement : Inertial → Vector → Measurement
  measurement f acc =
      let i = inclination_of f acc in
      let r = rotation w (quaternions.times w i.inclination.acc_quat i.inclination.gyr_quat) in
      let s = smoothed w f.state.bias r f.params.tau_acc f.coeffs.acc_ts f.coeffs.acc_lp in
      measured w s f.params f.coeffs (acc_rest_of f acc).value i.acc_earth f.state.bias.bias

  abbrev pub to_invert : Inertial → Vector → Matrix
  to_invert f acc = let m = measurement f acc in innovation w (widened w f.state.bias.bias_p f.coeffs.bias) m.r m.w

  -- there is one where bias estimation is on and something is measured: a weight below 0 marks that nothing is
  abbrev pub inverts : Inertial → Vector → Bool
  inverts f acc = (f.params.bias.motion_bias_est_enabled || f.params.rest.rest_bias_est_enabled) && le (zero w) (measurement f acc).w.0

  unfoldable pub no_inverse : Inertial → Vector → Bool
  no_inverse f acc =
      let m = to_invert f acc in
      let det = determinant m (adjugate m) in
      inverts f acc && (within (neg (epsilon binary64)) (epsilon binary64) det || not (scale.finite det))

  -- ---- The table.
  abbrev pub gyr_faults : Inertial → Vector → Float → Faults
  gyr_faults f gyr ts = record {
    bad_sample = not (gyr_taken w gyr);
    bad_interval = not (interval_taken w ts);
    bad_setting = false;
    zero_sample = false;
    singular = false;
    not_finite = not (all_finite (after_gyr f gyr ts));
  }

  abbrev pub acc_faults : Inertial → Vector → Faults
  acc_faults f acc = record {
    bad_sample = not (acc_taken w acc);
    bad_interval = false;
    bad_setting = false;
    zero_sample = zero_sample w acc;
    singular = no_inverse f acc;
    not_finite = not (all_finite (after_acc f acc));
  }

  abbrev pub tau_acc_faults : Inertial → Float → Faults
  tau_acc_faults f tau = record {
    bad_sample = false;
    bad_interval = false;
    bad_setting = not (tau_taken w f.coeffs.acc_ts tau);
    zero_sample = false;
    singular = false;
    not_finite = not (all_finite (after_tau_acc f tau));
  }

  abbrev pub faults : Inertial → Call → Faults
  faults f (own (update_gyr gyr)) = gyr_faults f gyr f.coeffs.gyr_ts
  faults f (own (update_gyr_with_ts gyr ts)) = gyr_faults f gyr ts
  faults f (own (update_acc acc)) = acc_faults f acc
  faults f (own (set_tau_acc tau)) = tau_acc_faults f tau
  faults f (own (set_rest_detection_thresholds gyr acc)) = setting_fault (not (threshold_taken w gyr && threshold_taken w acc))
  faults f (own (set_bias_estimate bias sigma)) = setting_fault (not (bias_taken w f.params.rest.bias_clip bias && sigma_or_none_taken w sigma))
  faults f (own (set_motion_bias_est_enabled on)) = faultless
  faults f (own (set_rest_bias_est_enabled on)) = faultless
  faults f (set_mag_dist_rejection_enabled on) = faultless
  faults f reset_state = faultless

  -- on a filter that holds finite numbers, each call's answer is exactly the table's; and what a call would leave is what it leaves
  pub record Answers : Type 0 where
    pub by_table : (f : Inertial) (c : Call) → T (all_finite f) → Exactly (faults f c) (reply w f c).number
    -- a refused call leaves the half as it was
    pub kept : (f : Inertial) (c : Call) → Kept f (reply w f c)
    pub gyr_leaves : (f : Inertial) (gyr : Vector) (ts : Float) → let t = reply w f (own (update_gyr_with_ts gyr ts)) in t.number ≡ 0 → t.left ≡ after_gyr f gyr ts
    pub acc_leaves : (f : Inertial) (acc : Vector) → let t = reply w f (own (update_acc acc)) in t.number ≡ 0 → t.left ≡ after_acc f acc
    pub tau_acc_leaves : (f : Inertial) (tau : Float) → let t = reply w f (own (set_tau_acc tau)) in t.number ≡ 0 → t.left ≡ after_tau_acc f tau
