-- Both results are the definition's.
use Rattle.determined.specs.Sambighjone.{Sambighjone}
use Rattle.determined.proofs.OneResult.{by_number}

pub sambighjone : Sambighjone
sambighjone = record {
  sambighjone_bias = λ κs a z z' e e'. by_number;
  sambighjone_delta = λ κs a z z' e e'. by_number;
  sambighjone_disturbed = λ κs a z z' e e'. by_number;
  sambighjone_mag_ref = λ κs a z z' e e'. by_number;
  sambighjone_quat_3d = λ κs a z z' e e'. by_number;
  sambighjone_quat_6d = λ κs a z z' e e'. by_number;
  sambighjone_quat_9d = λ κs a z z' e e'. by_number;
  sambighjone_relative_rest_deviations = λ κs a z z' e e'. by_number;
  sambighjone_rest = λ κs a z z' e e'. by_number;
  sambighjone_settings = λ κs a z z' e e'. by_number;
  sambighjone_build = λ κs a z z' e e'. by_number;
  sambighjone_fresh = λ κs a z z' e e'. by_number;
  sambighjone_feed_acc = λ κs a z z' e e'. by_number;
  sambighjone_feed_gyr = λ κs a z z' e e'. by_number;
  sambighjone_feed_gyr_with_ts = λ κs a z z' e e'. by_number;
  sambighjone_feed_mag = λ κs a z z' e e'. by_number;
  sambighjone_reset_state = λ κs a z z' e e'. by_number;
  sambighjone_set_bias_estimate = λ κs a z z' e e'. by_number;
  sambighjone_set_bias_estimate_with_sigma = λ κs a z z' e e'. by_number;
  sambighjone_set_mag_dist_rejection_enabled = λ κs a z z' e e'. by_number;
  sambighjone_set_mag_ref = λ κs a z z' e e'. by_number;
  sambighjone_set_motion_bias_est_enabled = λ κs a z z' e e'. by_number;
  sambighjone_set_rest_bias_est_enabled = λ κs a z z' e e'. by_number;
  sambighjone_set_rest_detection_thresholds = λ κs a z z' e e'. by_number;
  sambighjone_set_tau_acc = λ κs a z z' e e'. by_number;
  sambighjone_set_tau_mag = λ κs a z z' e e'. by_number;
  sambighjone_update = λ κs a z z' e e'. by_number;
}
