-- The updates, over the format w. The gyro and the accelerometer step are given the inertial half alone.
use Rattle.std.specs.Prelude.{Option, None, Some, Float}
use Rattle.std.specs.Float.{Format}
use Rattle.algebra.specs.declared.vector.Vector.{Vector}
use Rattle.limits.specs.Answers.{Told, told}
use Rattle.inertial.specs.Gyr as gyr
use Rattle.inertial.specs.Acc as acc
use Rattle.inertial.specs.Asked.{quat_6d}
use Rattle.inertial.specs.declared.types.Inertial.{Inertial}
use Rattle.magnetic.specs.Step as mag
use Rattle.magnetic.specs.declared.types.Seen.{Seen}
use Rattle.vqf.specs.Told.{ToldAll, inertially, magnetically}
use Rattle.vqf.specs.declared.types.VQF.{VQF}

module _ (w : Format) where
  -- what a magnetometer step reads of the inertial half
  unfoldable pub seen : Inertial → Seen
  seen f = record {
    quat_6d = quat_6d w f;
    mag_dist_rejection_enabled = f.params.rest.mag_dist_rejection_enabled;
    rest_last_gyr_lp = f.state.rest.rest_last_gyr_lp;
  }

  unfoldable pub update_gyr_with_ts : VQF → Vector → Float → Told VQF
  update_gyr_with_ts f v ts = inertially f (gyr.update_gyr_with_ts w f.inertial v ts)

  unfoldable pub update_gyr : VQF → Vector → Told VQF
  update_gyr f v = inertially f (gyr.update_gyr w f.inertial v)

  unfoldable pub update_acc : VQF → Vector → Told VQF
  update_acc f v = inertially f (acc.update_acc w f.inertial v)

  unfoldable pub update_mag : VQF → Vector → Told VQF
  update_mag f v = magnetically f (mag.update_mag w f.magnetic (seen f.inertial) v)

  unfoldable pub update_sample : VQF → Option Vector → Told VQF
  update_sample f None = told 0 f
  update_sample f (Some v) = update_mag f v

  unfoldable pub update : VQF → Vector → Vector → Option Vector → ToldAll
  update f gyr acc mag =
      let g = update_gyr f gyr in
      let a = update_acc g.left acc in
      let m = update_sample a.left mag in
      record { gyr = g.number; acc = a.number; mag = m.number; left = m.left }
