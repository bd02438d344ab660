-- Both results are the definition's.
use Rattle.determined.specs.Filter.{Filter}
use Rattle.determined.proofs.OneResult.{call, equal, update}

pub filter : Filter
filter = record {
  Params_house = λ κs a z z' e e'. equal;
  VQF_bias_estimate = λ κs a z z' e e'. equal;
  VQF_coeffs = λ κs a z z' e e'. equal;
  VQF_delta = λ κs a z z' e e'. equal;
  VQF_fresh = λ κs a z z' e e'. equal;
  VQF_inertially = λ κs a z z' e e'. call;
  VQF_mag_dist_detected = λ κs a z z' e e'. equal;
  VQF_mag_ref_dip = λ κs a z z' e e'. equal;
  VQF_mag_ref_norm = λ κs a z z' e e'. equal;
  VQF_magnetically = λ κs a z z' e e'. call;
  VQF_new = λ κs a z z' e e'. call;
  VQF_params = λ κs a z z' e e'. equal;
  VQF_quat_3d = λ κs a z z' e e'. equal;
  VQF_quat_6d = λ κs a z z' e e'. equal;
  VQF_quat_9d = λ κs a z z' e e'. equal;
  VQF_relative_rest_deviations = λ κs a z z' e e'. equal;
  VQF_reset_state = λ κs a z z' e e'. call;
  VQF_rest_detected = λ κs a z z' e e'. equal;
  VQF_set_bias_estimate = λ κs a z z' e e'. call;
  VQF_set_mag_dist_rejection_enabled = λ κs a z z' e e'. call;
  VQF_set_mag_ref = λ κs a z z' e e'. call;
  VQF_set_motion_bias_est_enabled = λ κs a z z' e e'. call;
  VQF_set_rest_bias_est_enabled = λ κs a z z' e e'. call;
  VQF_set_rest_detection_thresholds = λ κs a z z' e e'. call;
  VQF_set_tau_acc = λ κs a z z' e e'. call;
  VQF_set_tau_mag = λ κs a z z' e e'. call;
  VQF_state = λ κs a z z' e e'. equal;
  VQF_update = λ κs a z z' e e'. update;
  VQF_update_acc = λ κs a z z' e e'. call;
  VQF_update_gyr = λ κs a z z' e e'. call;
  VQF_update_gyr_with_ts = λ κs a z z' e e'. call;
  VQF_update_mag = λ κs a z z' e e'. call;
}
