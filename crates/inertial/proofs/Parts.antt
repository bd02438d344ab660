-- That all numbers of a half, of its state or of its bias are finite says it of each part, under the part's name, and follows from them.
use lib.Dec.{T}
use lib.Ieee.Scale as scale
use Rattle.floats.specs.Tests.{both}
use Rattle.algebra.specs.Vectors as vectors
use Rattle.algebra.specs.Quaternions as quaternions
use Rattle.algebra.specs.Matrices as matrices
use Rattle.filters.specs.Banks.{finite_channels}
use Rattle.tilt.specs.Gyr.{finite_gyr_rest}
use Rattle.inertial.specs.Kalman.{finite_bias}
use Rattle.tilt.specs.Acc.{finite_acc_rest, finite_inclination}
use Rattle.inertial.specs.Told.{with_state}
use Rattle.inertial.specs.Setters.{with_params, with_bias}
use Rattle.inertial.specs.AllFinite.{finite_params, finite_bias_coefficients, finite_coefficients, finite_state, all_finite}
use Rattle.inertial.specs.Types.{Bias, Inertial, InertialCoefficients, InertialParams, InertialState}

pub record Parts (f : Inertial) : Type 0 where
  pub params : T (finite_params f.params)
  pub coeffs : T (finite_coefficients f.coeffs)
  pub state : T (finite_state f.state)

pub parts : (f : Inertial) → T (all_finite f) → Parts f
unfolding all_finite
parts f h = let k = simp both at h in record { params = k.0.0; coeffs = k.0.1; state = k.1 }

pub whole : (f : Inertial) → Parts f → T (all_finite f)
unfolding all_finite
whole f k = simp both ((k.params, k.coeffs), k.state)

pub record StateParts (s : InertialState) : Type 0 where
  pub gyr_quat : T (quaternions.finite s.inclination.gyr_quat)
  pub inclination : T (finite_inclination s.inclination)
  pub bias : T (finite_bias s.bias)
  pub gyr_rest : T (finite_gyr_rest s.rest)
  pub acc_rest : T (finite_acc_rest s.rest)

pub state_parts : (s : InertialState) → T (finite_state s) → StateParts s
unfolding finite_state
state_parts s h = let k = simp both at h in record { gyr_quat = k.0.0.0.0; inclination = k.0.0.0.1; bias = k.0.0.1; gyr_rest = k.0.1; acc_rest = k.1 }

pub whole_state : (s : InertialState) → StateParts s → T (finite_state s)
unfolding finite_state
whole_state s k = simp both ((((k.gyr_quat, k.inclination), k.bias), k.gyr_rest), k.acc_rest)

pub record BiasParts (b : Bias) : Type 0 where
  pub bias : T (vectors.finite b.bias)
  pub covariance : T (matrices.finite b.bias_p)
  pub rotation : T (finite_channels 9 b.motion_bias_est_rlp_state)
  pub lowpassed : T (finite_channels 2 b.motion_bias_est_bias_lp_state)

pub bias_parts : (b : Bias) → T (finite_bias b) → BiasParts b
unfolding finite_bias
bias_parts b h = let k = simp both at h in record { bias = k.0.0.0; covariance = k.0.0.1; rotation = k.0.1; lowpassed = k.1 }

pub whole_bias : (b : Bias) → BiasParts b → T (finite_bias b)
unfolding finite_bias
whole_bias b k = simp both (((k.bias, k.covariance), k.rotation), k.lowpassed)

pub p0_finite : (k : InertialCoefficients) → T (finite_coefficients k) → T (scale.finite k.bias.bias_p0)
unfolding finite_coefficients finite_bias_coefficients
p0_finite k h = (simp both at h).1.0.0.0.0

-- ---- a group in the place of another
module _ (f : Inertial) (h : T (all_finite f)) where
  pub put_params : (p : InertialParams) → T (finite_params p) → T (all_finite (with_params f p))
  put_params p k = let a = parts f h in whole _ (record { params = k; coeffs = a.coeffs; state = a.state })

  pub put_state : (s : InertialState) → T (finite_state s) → T (all_finite (with_state f s))
  put_state s k = let a = parts f h in whole _ (record { params = a.params; coeffs = a.coeffs; state = k })

  pub put_bias : (b : Bias) → T (finite_bias b) → T (all_finite (with_bias f b))
  put_bias b k =
      let s = state_parts _ (parts f h).state in
      put_state _ (whole_state _ (record { gyr_quat = s.gyr_quat; inclination = s.inclination; bias = k; gyr_rest = s.gyr_rest; acc_rest = s.acc_rest }))
