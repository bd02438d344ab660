-- The gyro step, over the format w: that of `tilt`, on the groups of this half.
use Rattle.std.specs.Prelude.{Float}
use Rattle.std.specs.Float.{Format}
use Rattle.algebra.specs.declared.vector.Vector.{Vector}
use Rattle.algebra.specs.declared.quaternion.Quaternion.{Quaternion}
use Rattle.limits.specs.Answers.{Told, told}
use Rattle.tilt.specs.Gyr as tilt
use Rattle.tilt.specs.declared.types.Inclination.{Inclination}
use Rattle.inertial.specs.Told.{state_of, with_state}
use Rattle.inertial.specs.declared.types.Inertial.{Inertial}

abbrev pub with_gyr_quat : Inclination → Quaternion → Inclination
with_gyr_quat i q =
    record {
      gyr_quat = q;
      acc_quat = i.acc_quat;
      last_acc_lp = i.last_acc_lp;
      acc_lp_state = i.acc_lp_state;
      last_acc_corr_angular_rate = i.last_acc_corr_angular_rate;
    }

-- the half with what a gyro sample left
abbrev pub put_back : Inertial → tilt.ToldGyr → Told Inertial
put_back f u = told u.number (with_state f (state_of (with_gyr_quat f.state.inclination u.quat) f.state.bias u.rest))

module _ (w : Format) where
  unfoldable pub update_gyr_with_ts : Inertial → Vector → Float → Told Inertial
  update_gyr_with_ts f gyr ts =
      put_back f
      (tilt.update_gyr w f.state.rest f.params.rest f.coeffs.gyr_ts f.coeffs.rest_gyr_lp f.state.inclination.gyr_quat f.state.bias.bias gyr ts)

  abbrev pub update_gyr : Inertial → Vector → Told Inertial
  update_gyr f gyr = update_gyr_with_ts f gyr f.coeffs.gyr_ts
