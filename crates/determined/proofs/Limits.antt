-- Both results are the definition's.
use Rattle.determined.specs.Limits.{Limits}
use Rattle.determined.proofs.OneResult.{equal}

pub limits : Limits
limits = record {
  Answer_digit = λ κs a z z' e e'. equal;
  Answer_number = λ κs a z z' e e'. equal;
  acc_taken = λ κs a z z' e e'. equal;
  all_within = λ κs a z z' e e'. equal;
  gyr_taken = λ κs a z z' e e'. equal;
  interval_taken = λ κs a z z' e e'. equal;
  mag_taken = λ κs a z z' e e'. equal;
  within = λ κs a z z' e e'. equal;
  zero_sample = λ κs a z z' e e'. equal;
  dip_threshold_taken = λ κs a z z' e e'. equal;
  duration_taken = λ κs a z z' e e'. equal;
  forgetting_time_taken = λ κs a z z' e e'. equal;
  gain_tau_taken = λ κs a z z' e e'. equal;
  min_gyr_taken = λ κs a z z' e e'. equal;
  norm_threshold_taken = λ κs a z z' e e'. equal;
  ref_dip_taken = λ κs a z z' e e'. equal;
  ref_norm_taken = λ κs a z z' e e'. equal;
  rejection_factor_taken = λ κs a z z' e e'. equal;
  sigma_taken = λ κs a z z' e e'. equal;
  tau_or_off_taken = λ κs a z z' e e'. equal;
  tau_taken = λ κs a z z' e e'. equal;
  threshold_taken = λ κs a z z' e e'. equal;
  vertical_factor_taken = λ κs a z z' e e'. equal;
}
