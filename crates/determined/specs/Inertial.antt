-- Every public function of `inertial`: the inertial half.
use Rattle.determined.specs.OneResult.{OneResult}
use Rattle.inertial.proofs.kalman.bias_step.Reads as bias_step
use Rattle.inertial.proofs.setup.taken.Reads as taken
use Rattle.inertial.proofs.types.Inertial.bias_estimate.Reads as Inertial_bias_estimate
use Rattle.inertial.proofs.types.Inertial.new.Reads as Inertial_new
use Rattle.inertial.proofs.types.Inertial.quat_3d.Reads as Inertial_quat_3d
use Rattle.inertial.proofs.types.Inertial.quat_6d.Reads as Inertial_quat_6d
use Rattle.inertial.proofs.types.Inertial.relative_rest_deviations.Reads as Inertial_relative_rest_deviations
use Rattle.inertial.proofs.types.Inertial.reset_state.Reads as Inertial_reset_state
use Rattle.inertial.proofs.types.Inertial.set_bias_estimate.Reads as Inertial_set_bias_estimate
use Rattle.inertial.proofs.types.Inertial.set_mag_dist_rejection_enabled.Reads as Inertial_set_mag_dist_rejection_enabled
use Rattle.inertial.proofs.types.Inertial.set_motion_bias_est_enabled.Reads as Inertial_set_motion_bias_est_enabled
use Rattle.inertial.proofs.types.Inertial.set_rest_bias_est_enabled.Reads as Inertial_set_rest_bias_est_enabled
use Rattle.inertial.proofs.types.Inertial.set_rest_detection_thresholds.Reads as Inertial_set_rest_detection_thresholds
use Rattle.inertial.proofs.types.Inertial.set_tau_acc.Reads as Inertial_set_tau_acc
use Rattle.inertial.proofs.types.Inertial.update_acc.Reads as Inertial_update_acc
use Rattle.inertial.proofs.types.Inertial.update_gyr.Reads as Inertial_update_gyr
use Rattle.inertial.proofs.types.Inertial.update_gyr_with_ts.Reads as Inertial_update_gyr_with_ts
use Rattle.inertial.proofs.types.InertialParams.house.Reads as InertialParams_house
use Rattle.inertial.proofs.types.InertialState.fresh.Reads as InertialState_fresh

pub record Inertial : Type 0 where
  pub bias_step : OneResult bias_step.Learnt
  pub taken : OneResult taken.Learnt
  pub Inertial_bias_estimate : OneResult Inertial_bias_estimate.Learnt
  pub Inertial_new : OneResult Inertial_new.Learnt
  pub Inertial_quat_3d : OneResult Inertial_quat_3d.Learnt
  pub Inertial_quat_6d : OneResult Inertial_quat_6d.Learnt
  pub Inertial_relative_rest_deviations : OneResult Inertial_relative_rest_deviations.Learnt
  pub Inertial_reset_state : OneResult Inertial_reset_state.Learnt
  pub Inertial_set_bias_estimate : OneResult Inertial_set_bias_estimate.Learnt
  pub Inertial_set_mag_dist_rejection_enabled : OneResult Inertial_set_mag_dist_rejection_enabled.Learnt
  pub Inertial_set_motion_bias_est_enabled : OneResult Inertial_set_motion_bias_est_enabled.Learnt
  pub Inertial_set_rest_bias_est_enabled : OneResult Inertial_set_rest_bias_est_enabled.Learnt
  pub Inertial_set_rest_detection_thresholds : OneResult Inertial_set_rest_detection_thresholds.Learnt
  pub Inertial_set_tau_acc : OneResult Inertial_set_tau_acc.Learnt
  pub Inertial_update_acc : OneResult Inertial_update_acc.Learnt
  pub Inertial_update_gyr : OneResult Inertial_update_gyr.Learnt
  pub Inertial_update_gyr_with_ts : OneResult Inertial_update_gyr_with_ts.Learnt
  pub InertialParams_house : OneResult InertialParams_house.Learnt
  pub InertialState_fresh : OneResult InertialState_fresh.Learnt
