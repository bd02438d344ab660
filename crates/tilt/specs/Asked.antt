-- What the groups answer when asked, over the format w.
use Rattle.std.specs.Float.{Format}
use Rattle.floats.specs.Notation.{rounded}
use Rattle.numbers.specs.Root.{root}
use Rattle.algebra.specs.Quaternions.{times}
use Rattle.algebra.specs.declared.quaternion.Quaternion.{Quaternion}
use Rattle.tilt.specs.Scalars.{radians}
use Rattle.tilt.specs.declared.types.Deviations.{Deviations}
use Rattle.tilt.specs.declared.types.Inclination.{Inclination}
use Rattle.tilt.specs.declared.types.Rest.{Rest}
use Rattle.tilt.specs.declared.types.RestParams.{RestParams}

module _ (w : Format) where
  open rounded w use {◌⊘◌}

  unfoldable pub quat_6d : Inclination → Quaternion
  quat_6d i = times w i.acc_quat i.gyr_quat

  unfoldable pub relative_rest_deviations : Rest → RestParams → Deviations
  relative_rest_deviations r p =
      let d = r.rest_last_squared_deviations in
      record { 0 = root w d.0 ⊘ radians w p.rest_th_gyr; 1 = root w d.1 ⊘ p.rest_th_acc }
