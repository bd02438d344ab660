-- The house settings, which settings are taken, and the coefficients and the fresh state that they give, over the format w.
use Rattle.std.specs.Prelude.{Bool, true, ◌&&◌, replicate, Float}
use Rattle.std.specs.Float.{Format}
use Rattle.floats.specs.Notation.{rounded, half, two}
use Rattle.floats.specs.Decimals.{three, hundred, one_and_a_half, tenth, three_hundredths, ten_thousandth, ten_billionth}
use Rattle.floats.specs.Definitions.{larger}
use Rattle.algebra.specs.Vectors.{origin}
use Rattle.algebra.specs.Matrices.{diagonal}
use Rattle.filters.specs.Channels.{fresh}
use Rattle.filters.specs.Coefficients.{filter_coeffs}
use Rattle.limits.specs.Limits.{interval_taken, tau_taken, sigma_taken, vertical_factor_taken, forgetting_time_taken}
use Rattle.tilt.specs.Scalars.{square}
use Rattle.tilt.specs.Setup.{rest_params_taken, fresh_rest, fresh_inclination}
use Rattle.inertial.specs.declared.types.BiasCoefficients.{BiasCoefficients}
use Rattle.inertial.specs.declared.types.BiasParams.{BiasParams}
use Rattle.inertial.specs.declared.types.Inertial.{Inertial}
use Rattle.inertial.specs.declared.types.InertialCoefficients.{InertialCoefficients}
use Rattle.inertial.specs.declared.types.InertialParams.{InertialParams}
use Rattle.inertial.specs.declared.types.InertialState.{InertialState}

module _ (w : Format) where
  open rounded w use {◌⊕◌, ◌⊗◌, ◌⊘◌}

  unfoldable pub house : InertialParams
  house = record {
    tau_acc = three w;
    rest = record {
      rest_bias_est_enabled = true;
      mag_dist_rejection_enabled = true;
      bias_clip = two w;
      rest_min_t = one_and_a_half w;
      rest_filter_tau = half w;
      rest_th_gyr = two w;
      rest_th_acc = half w;
    };
    bias = record {
      motion_bias_est_enabled = true;
      bias_sigma_init = half w;
      bias_forgetting_time = hundred w;
      bias_sigma_motion = tenth w;
      bias_vertical_forgetting_factor = ten_thousandth w;
      bias_sigma_rest = three_hundredths w;
    };
  }

  unfoldable pub bias_params_taken : BiasParams → Bool
  bias_params_taken p =
      sigma_taken w p.bias_sigma_init
      && forgetting_time_taken w p.bias_forgetting_time
      && sigma_taken w p.bias_sigma_motion
      && vertical_factor_taken w p.bias_vertical_forgetting_factor
      && sigma_taken w p.bias_sigma_rest

  unfoldable pub taken : InertialParams → Float → Float → Bool
  taken p gyr_ts acc_ts =
      interval_taken w gyr_ts
      && interval_taken w acc_ts
      && tau_taken w acc_ts p.tau_acc
      && rest_params_taken w p.rest gyr_ts acc_ts
      && bias_params_taken p.bias

  unfoldable pub bias_coefficients : BiasParams → Float → BiasCoefficients
  bias_coefficients p acc_ts =
      let bias_v = square w (tenth w ⊗ hundred w) ⊗ acc_ts ⊘ p.bias_forgetting_time in
      let p_motion = square w (p.bias_sigma_motion ⊗ hundred w) in
      let bias_motion_w = square w p_motion ⊘ bias_v ⊕ p_motion in
      let p_rest = square w (p.bias_sigma_rest ⊗ hundred w) in
      record {
        bias_p0 = square w (p.bias_sigma_init ⊗ hundred w);
        bias_v = bias_v;
        bias_motion_w = bias_motion_w;
        bias_vertical_w = bias_motion_w ⊘ larger p.bias_vertical_forgetting_factor (ten_billionth w);
        bias_rest_w = square w p_rest ⊘ bias_v ⊕ p_rest;
      }

  unfoldable pub setup : InertialParams → Float → Float → InertialCoefficients
  setup p gyr_ts acc_ts = record {
    gyr_ts = gyr_ts;
    acc_ts = acc_ts;
    acc_lp = filter_coeffs p.tau_acc acc_ts;
    rest_gyr_lp = filter_coeffs p.rest.rest_filter_tau gyr_ts;
    rest_acc_lp = filter_coeffs p.rest.rest_filter_tau acc_ts;
    bias = bias_coefficients p.bias acc_ts;
  }

  unfoldable pub fresh_state : Float → InertialState
  fresh_state p0 = record {
    inclination = fresh_inclination w;
    bias = record {
      bias = origin w;
      bias_p = diagonal w p0;
      motion_bias_est_rlp_state = replicate 9 fresh;
      motion_bias_est_bias_lp_state = replicate 2 fresh;
    };
    rest = fresh_rest w;
  }

  unfoldable pub new : InertialParams → Float → Float → Inertial
  new p gyr_ts acc_ts =
      let k = setup p gyr_ts acc_ts in
      record { params = p; coeffs = k; state = fresh_state k.bias.bias_p0 }
