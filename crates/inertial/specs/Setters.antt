-- The setters of the inertial half, over the format w.
use Rattle.std.specs.Prelude.{Bool, true, cond, ◌&&◌, replicate, Option, None, Some, Float}
use Rattle.std.specs.Bool.{beq}
use Rattle.std.specs.Float.{Format}
use Rattle.std.specs.Float.Ieee.{eq}
use Rattle.floats.specs.Notation.{rounded, pi}
use Rattle.floats.specs.Decimals.{hundred, half_turn}
use Rattle.algebra.specs.Matrices.{diagonal}
use Rattle.algebra.specs.declared.vector.Vector.{Vector}
use Rattle.algebra.specs.declared.matrix.Matrix.{Matrix}
use Rattle.filters.specs.Channels.{fresh}
use Rattle.filters.specs.Banks.{adapted, first_numbers, finite_channels}
use Rattle.filters.specs.Coefficients.{filter_coeffs, finite_coeffs}
use Rattle.filters.specs.declared.coeffs.Coeffs.{Coeffs}
use Rattle.limits.specs.Answers.{Told, told}
use Rattle.limits.specs.Limits.{all_within, tau_taken, threshold_taken, sigma_taken}
use Rattle.tilt.specs.Setters.{adapted_inclination}
use Rattle.inertial.specs.Told.{state_of, with_state, if_finite}
use Rattle.tilt.specs.Scalars.{square, radians}
use Rattle.tilt.specs.Setup.{fresh_rest}
use Rattle.inertial.specs.Setup.{fresh_state}
use Rattle.inertial.specs.declared.types.Bias.{Bias}
use Rattle.inertial.specs.declared.types.Inertial.{Inertial}
use Rattle.inertial.specs.declared.types.InertialCoefficients.{InertialCoefficients}
use Rattle.inertial.specs.declared.types.InertialParams.{InertialParams}
use Rattle.tilt.specs.declared.types.RestParams.{RestParams}

-- ---- a group, or a setting, in the place of another
abbrev pub with_params : Inertial → InertialParams → Inertial
with_params f p = record { params = p; coeffs = f.coeffs; state = f.state }

abbrev pub with_rest_params : InertialParams → RestParams → InertialParams
with_rest_params p r = record { tau_acc = p.tau_acc; rest = r; bias = p.bias }

abbrev pub with_switches : RestParams → Bool → Bool → RestParams
with_switches p rest mag =
    record {
      rest_bias_est_enabled = rest;
      mag_dist_rejection_enabled = mag;
      bias_clip = p.bias_clip;
      rest_min_t = p.rest_min_t;
      rest_filter_tau = p.rest_filter_tau;
      rest_th_gyr = p.rest_th_gyr;
      rest_th_acc = p.rest_th_acc;
    }

abbrev pub with_thresholds : RestParams → Float → Float → RestParams
with_thresholds p th_gyr th_acc =
    record {
      rest_bias_est_enabled = p.rest_bias_est_enabled;
      mag_dist_rejection_enabled = p.mag_dist_rejection_enabled;
      bias_clip = p.bias_clip;
      rest_min_t = p.rest_min_t;
      rest_filter_tau = p.rest_filter_tau;
      rest_th_gyr = th_gyr;
      rest_th_acc = th_acc;
    }

abbrev pub with_motion_switch : InertialParams → Bool → InertialParams
with_motion_switch p on =
    record {
      tau_acc = p.tau_acc;
      rest = p.rest;
      bias = record {
        motion_bias_est_enabled = on;
        bias_sigma_init = p.bias.bias_sigma_init;
        bias_forgetting_time = p.bias.bias_forgetting_time;
        bias_sigma_motion = p.bias.bias_sigma_motion;
        bias_vertical_forgetting_factor = p.bias.bias_vertical_forgetting_factor;
        bias_sigma_rest = p.bias.bias_sigma_rest;
      };
    }

abbrev pub with_tau_acc : InertialParams → Float → InertialParams
with_tau_acc p tau = record { tau_acc = tau; rest = p.rest; bias = p.bias }

abbrev pub with_acc_lp : InertialCoefficients → Coeffs → InertialCoefficients
with_acc_lp k c =
    record {
      gyr_ts = k.gyr_ts;
      acc_ts = k.acc_ts;
      acc_lp = c;
      rest_gyr_lp = k.rest_gyr_lp;
      rest_acc_lp = k.rest_acc_lp;
      bias = k.bias;
    }

abbrev pub with_bias : Inertial → Bias → Inertial
with_bias f b = with_state f (state_of f.state.inclination b f.state.rest)

-- ---- the setters
-- a switch that does not change changes nothing
unfoldable pub set_motion_bias_est_enabled : Inertial → Bool → Inertial
set_motion_bias_est_enabled f on =
    cond (beq f.params.bias.motion_bias_est_enabled on) f
    (with_bias (with_params f (with_motion_switch f.params on))
    (record {
      bias = f.state.bias.bias;
      bias_p = f.state.bias.bias_p;
      motion_bias_est_rlp_state = replicate 9 fresh;
      motion_bias_est_bias_lp_state = replicate 2 fresh;
    }))

unfoldable pub set_mag_dist_rejection_enabled : Inertial → Bool → Inertial
set_mag_dist_rejection_enabled f on =
    let p = f.params.rest in
    with_params f (with_rest_params f.params (with_switches p p.rest_bias_est_enabled on))

module _ (w : Format) where
  open rounded w use {◌⊕◌, ◌⊖◌, ◌⊗◌, ◌⊘◌}

  -- the source takes the first memory for the last value, which is not stored
  unfoldable pub adapted_bias : Bias → Coeffs → Coeffs → Bias
  adapted_bias b old new =
      record {
        bias = b.bias;
        bias_p = b.bias_p;
        motion_bias_est_rlp_state = adapted 9 (first_numbers w 9 b.motion_bias_est_rlp_state) old new b.motion_bias_est_rlp_state;
        motion_bias_est_bias_lp_state = adapted 2 (first_numbers w 2 b.motion_bias_est_bias_lp_state) old new b.motion_bias_est_bias_lp_state;
      }

  unfoldable pub retuned : Inertial → Float → Told Inertial
  retuned f tau =
      let old = f.coeffs.acc_lp in
      let new = filter_coeffs tau f.coeffs.acc_ts in
      let i = adapted_inclination f.state.inclination old new in
      let b = adapted_bias f.state.bias old new in
      if_finite
      (finite_coeffs new
      && finite_channels 3 i.acc_lp_state
      && finite_channels 9 b.motion_bias_est_rlp_state
      && finite_channels 2 b.motion_bias_est_bias_lp_state)
      (record { params = with_tau_acc f.params tau; coeffs = with_acc_lp f.coeffs new; state = state_of i b f.state.rest })
      f

  unfoldable pub set_tau_acc : Inertial → Float → Told Inertial
  set_tau_acc f tau =
      cond (tau_taken w f.coeffs.acc_ts tau) (cond (eq f.params.tau_acc tau) (told 0 f) (retuned f tau)) (told 4 f)

  unfoldable pub set_rest_bias_est_enabled : Inertial → Bool → Inertial
  set_rest_bias_est_enabled f on =
      let p = f.params.rest in
      cond (beq p.rest_bias_est_enabled on) f
      (with_state
      (with_params f (with_rest_params f.params (with_switches p on p.mag_dist_rejection_enabled)))
      (state_of f.state.inclination f.state.bias (fresh_rest w)))

  unfoldable pub set_rest_detection_thresholds : Inertial → Float → Float → Told Inertial
  set_rest_detection_thresholds f th_gyr th_acc =
      cond (threshold_taken w th_gyr && threshold_taken w th_acc)
      (told 0 (with_params f (with_rest_params f.params (with_thresholds f.params.rest th_gyr th_acc))))
      (told 4 f)

  unfoldable pub variance : Float → Float
  variance sigma = square w (sigma ⊗ (half_turn w ⊗ hundred w ⊘ pi w))

  -- each component within the filter's own clip, worked out as the gyro step works it out
  abbrev pub bias_taken : Float → Vector → Bool
  bias_taken clip = all_within (radians w clip)

  unfoldable pub sigma_or_none_taken : Option Float → Bool
  sigma_or_none_taken None = true
  sigma_or_none_taken (Some s) = sigma_taken w s

  abbrev pub covariance_after : Matrix → Option Float → Matrix
  covariance_after p None = p
  covariance_after p (Some s) = diagonal w (variance s)

  unfoldable pub with_estimate : Bias → Vector → Option Float → Bias
  with_estimate b v sigma =
      record {
        bias = v;
        bias_p = covariance_after b.bias_p sigma;
        motion_bias_est_rlp_state = b.motion_bias_est_rlp_state;
        motion_bias_est_bias_lp_state = b.motion_bias_est_bias_lp_state;
      }

  unfoldable pub set_bias_estimate : Inertial → Vector → Option Float → Told Inertial
  set_bias_estimate f v sigma =
      cond (bias_taken f.params.rest.bias_clip v && sigma_or_none_taken sigma)
      (told 0 (with_bias f (with_estimate f.state.bias v sigma)))
      (told 4 f)

  unfoldable pub reset_state : Inertial → Inertial
  reset_state f = with_state f (fresh_state w f.coeffs.bias.bias_p0)
