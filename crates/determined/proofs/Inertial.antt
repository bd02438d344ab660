-- Both results are the definition's.
use Rattle.determined.specs.Inertial.{Inertial}
use Rattle.determined.proofs.OneResult.{call, equal}

pub inertial : Inertial
inertial = record {
  bias_step = λ κs a z z' e e'. equal;
  taken = λ κs a z z' e e'. equal;
  Inertial_bias_estimate = λ κs a z z' e e'. equal;
  Inertial_new = λ κs a z z' e e'. equal;
  Inertial_quat_3d = λ κs a z z' e e'. equal;
  Inertial_quat_6d = λ κs a z z' e e'. equal;
  Inertial_relative_rest_deviations = λ κs a z z' e e'. equal;
  Inertial_reset_state = λ κs a z z' e e'. equal;
  Inertial_set_bias_estimate = λ κs a z z' e e'. call;
  Inertial_set_mag_dist_rejection_enabled = λ κs a z z' e e'. equal;
  Inertial_set_motion_bias_est_enabled = λ κs a z z' e e'. equal;
  Inertial_set_rest_bias_est_enabled = λ κs a z z' e e'. equal;
  Inertial_set_rest_detection_thresholds = λ κs a z z' e e'. call;
  Inertial_set_tau_acc = λ κs a z z' e e'. call;
  Inertial_update_acc = λ κs a z z' e e'. call;
  Inertial_update_gyr = λ κs a z z' e e'. call;
  Inertial_update_gyr_with_ts = λ κs a z z' e e'. call;
  InertialParams_house = λ κs a z z' e e'. equal;
  InertialState_fresh = λ κs a z z' e e'. equal;
}
