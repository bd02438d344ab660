-- What the filter answers when asked, over the format w.
use Rattle.std.specs.Prelude.{Bool, Float}
use Rattle.std.specs.Float.{Format}
use Rattle.algebra.specs.Quaternions.{apply_delta}
use Rattle.algebra.specs.declared.quaternion.Quaternion.{Quaternion}
use Rattle.inertial.specs.Asked as inertial
use Rattle.inertial.specs.declared.asked.BiasEstimate.{BiasEstimate}
use Rattle.tilt.specs.declared.types.Deviations.{Deviations}
use Rattle.vqf.specs.declared.types.VQF.{VQF}
use Rattle.vqf.specs.declared.types.Params.{Params}
use Rattle.vqf.specs.declared.types.Coefficients.{Coefficients}
use Rattle.vqf.specs.declared.types.State.{State}

abbrev pub quat_3d : VQF → Quaternion
quat_3d f = f.inertial.state.inclination.gyr_quat

abbrev pub delta : VQF → Float
delta f = f.magnetic.state.heading.delta

abbrev pub rest_detected : VQF → Bool
rest_detected f = f.inertial.state.rest.rest_detected

abbrev pub mag_dist_detected : VQF → Bool
mag_dist_detected f = f.magnetic.state.field.mag_dist_detected

abbrev pub mag_ref_norm : VQF → Float
mag_ref_norm f = f.magnetic.state.field.mag_ref_norm

abbrev pub mag_ref_dip : VQF → Float
mag_ref_dip f = f.magnetic.state.field.mag_ref_dip

abbrev pub params : VQF → Params
params f = record { inertial = f.inertial.params; magnetic = f.magnetic.params }

abbrev pub coeffs : VQF → Coefficients
coeffs f = record { inertial = f.inertial.coeffs; magnetic = f.magnetic.coeffs }

abbrev pub state : VQF → State
state f = record { inertial = f.inertial.state; magnetic = f.magnetic.state }

module _ (w : Format) where
  abbrev pub quat_6d : VQF → Quaternion
  quat_6d f = inertial.quat_6d w f.inertial

  abbrev pub quat_9d : VQF → Quaternion
  quat_9d f = apply_delta w (quat_6d f) (delta f)

  abbrev pub bias_estimate : VQF → BiasEstimate
  bias_estimate f = inertial.bias_estimate w f.inertial

  abbrev pub relative_rest_deviations : VQF → Deviations
  relative_rest_deviations f = inertial.relative_rest_deviations w f.inertial
