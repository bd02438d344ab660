-- Whether every number that the inertial half stores is finite, group by group. Switches and flags are no numbers.
use Rattle.std.specs.Prelude.{Bool, ◌&&◌}
use Rattle.std.specs.Float.Ieee.Scale.{finite}
use Rattle.algebra.specs.Quaternions as quaternions
use Rattle.filters.specs.Coefficients.{finite_coeffs}
use Rattle.tilt.specs.Gyr.{finite_gyr_rest}
use Rattle.inertial.specs.Kalman.{finite_bias}
use Rattle.tilt.specs.Acc.{finite_acc_rest, finite_inclination}
use Rattle.inertial.specs.declared.types.BiasCoefficients.{BiasCoefficients}
use Rattle.inertial.specs.declared.types.BiasParams.{BiasParams}
use Rattle.inertial.specs.declared.types.Inertial.{Inertial}
use Rattle.inertial.specs.declared.types.InertialCoefficients.{InertialCoefficients}
use Rattle.inertial.specs.declared.types.InertialParams.{InertialParams}
use Rattle.inertial.specs.declared.types.InertialState.{InertialState}
use Rattle.tilt.specs.declared.types.RestParams.{RestParams}

unfoldable pub finite_rest_params : RestParams → Bool
finite_rest_params p =
    finite p.bias_clip
    && finite p.rest_min_t
    && finite p.rest_filter_tau
    && finite p.rest_th_gyr
    && finite p.rest_th_acc

unfoldable pub finite_bias_params : BiasParams → Bool
finite_bias_params p =
    finite p.bias_sigma_init
    && finite p.bias_forgetting_time
    && finite p.bias_sigma_motion
    && finite p.bias_vertical_forgetting_factor
    && finite p.bias_sigma_rest

unfoldable pub finite_params : InertialParams → Bool
finite_params p = finite p.tau_acc && finite_rest_params p.rest && finite_bias_params p.bias

unfoldable pub finite_bias_coefficients : BiasCoefficients → Bool
finite_bias_coefficients k =
    finite k.bias_p0
    && finite k.bias_v
    && finite k.bias_motion_w
    && finite k.bias_vertical_w
    && finite k.bias_rest_w

unfoldable pub finite_coefficients : InertialCoefficients → Bool
finite_coefficients k =
    finite k.gyr_ts
    && finite k.acc_ts
    && finite_coeffs k.acc_lp
    && finite_coeffs k.rest_gyr_lp
    && finite_coeffs k.rest_acc_lp
    && finite_bias_coefficients k.bias

unfoldable pub finite_state : InertialState → Bool
finite_state s =
    quaternions.finite s.inclination.gyr_quat
    && finite_inclination s.inclination
    && finite_bias s.bias
    && finite_gyr_rest s.rest
    && finite_acc_rest s.rest

unfoldable pub all_finite : Inertial → Bool
all_finite f = finite_params f.params && finite_coefficients f.coeffs && finite_state f.state
