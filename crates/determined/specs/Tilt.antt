-- Every public function of `tilt`: tilt and rest.
use Rattle.determined.specs.OneResult.{OneResult}
use Rattle.tilt.proofs.acc.acc_rest.Reads as acc_rest
use Rattle.tilt.proofs.acc.inclined.Reads as inclined
use Rattle.tilt.proofs.angle.radians.Reads as radians
use Rattle.tilt.proofs.asked.quat_6d.Reads as quat_6d
use Rattle.tilt.proofs.asked.relative_rest_deviations.Reads as relative_rest_deviations
use Rattle.tilt.proofs.gyr.BeforeGyr.update.Reads as BeforeGyr_update
use Rattle.tilt.proofs.gyr.gyr_rest.Reads as gyr_rest
use Rattle.tilt.proofs.gyr.predicted.Reads as predicted
use Rattle.tilt.proofs.rest.broken.Reads as broken
use Rattle.tilt.proofs.rest.squared_deviation.Reads as squared_deviation
use Rattle.tilt.proofs.setters.adapted_inclination.Reads as adapted_inclination
use Rattle.tilt.proofs.setup.rest_params_taken.Reads as rest_params_taken
use Rattle.tilt.proofs.types.Inclination.fresh.Reads as Inclination_fresh
use Rattle.tilt.proofs.types.Rest.fresh.Reads as Rest_fresh

pub record Tilt : Type 0 where
  pub acc_rest : OneResult acc_rest.Learnt
  pub inclined : OneResult inclined.Learnt
  pub radians : OneResult radians.Learnt
  pub quat_6d : OneResult quat_6d.Learnt
  pub relative_rest_deviations : OneResult relative_rest_deviations.Learnt
  pub BeforeGyr_update : OneResult BeforeGyr_update.Learnt
  pub gyr_rest : OneResult gyr_rest.Learnt
  pub predicted : OneResult predicted.Learnt
  pub broken : OneResult broken.Learnt
  pub squared_deviation : OneResult squared_deviation.Learnt
  pub adapted_inclination : OneResult adapted_inclination.Learnt
  pub rest_params_taken : OneResult rest_params_taken.Learnt
  pub Inclination_fresh : OneResult Inclination_fresh.Learnt
  pub Rest_fresh : OneResult Rest_fresh.Learnt
