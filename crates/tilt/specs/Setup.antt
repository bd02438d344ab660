-- Which settings of rest are taken, and the fresh groups, over the format w.
use Rattle.std.specs.Prelude.{Bool, false, ◌&&◌, replicate, Float}
use Rattle.std.specs.Float.{Format}
use Rattle.floats.specs.Notation.{zero}
use Rattle.floats.specs.Definitions.{larger}
use Rattle.algebra.specs.Vectors.{origin}
use Rattle.algebra.specs.Quaternions.{identity}
use Rattle.filters.specs.Channels.{fresh}
use Rattle.limits.specs.Limits.{tau_taken, threshold_taken, duration_taken}
use Rattle.tilt.specs.declared.types.Inclination.{Inclination}
use Rattle.tilt.specs.declared.types.Rest.{Rest}
use Rattle.tilt.specs.declared.types.RestParams.{RestParams}

module _ (w : Format) where
  unfoldable pub rest_params_taken : RestParams → Float → Float → Bool
  rest_params_taken p gyr_ts acc_ts =
      threshold_taken w p.bias_clip
      && duration_taken w p.rest_min_t
      && tau_taken w (larger gyr_ts acc_ts) p.rest_filter_tau
      && threshold_taken w p.rest_th_gyr
      && threshold_taken w p.rest_th_acc

  unfoldable pub fresh_rest : Rest
  fresh_rest = record {
    rest_detected = false;
    rest_last_squared_deviations = record { 0 = zero w; 1 = zero w };
    rest_t = zero w;
    rest_last_gyr_lp = origin w;
    rest_gyr_lp_state = replicate 3 fresh;
    rest_last_acc_lp = origin w;
    rest_acc_lp_state = replicate 3 fresh;
  }

  unfoldable pub fresh_inclination : Inclination
  fresh_inclination = record {
    gyr_quat = identity w;
    acc_quat = identity w;
    last_acc_lp = origin w;
    acc_lp_state = replicate 3 fresh;
    last_acc_corr_angular_rate = zero w;
  }
