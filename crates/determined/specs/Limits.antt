-- Every public function of `limits`: limits and tests.
use Rattle.determined.specs.OneResult.{OneResult}
use Rattle.limits.proofs.answer.Answer.digit.Reads as Answer_digit
use Rattle.limits.proofs.answer.Answer.number.Reads as Answer_number
use Rattle.limits.proofs.sample.acc_taken.Reads as acc_taken
use Rattle.limits.proofs.sample.all_within.Reads as all_within
use Rattle.limits.proofs.sample.gyr_taken.Reads as gyr_taken
use Rattle.limits.proofs.sample.interval_taken.Reads as interval_taken
use Rattle.limits.proofs.sample.mag_taken.Reads as mag_taken
use Rattle.limits.proofs.sample.within.Reads as within
use Rattle.limits.proofs.sample.zero_sample.Reads as zero_sample
use Rattle.limits.proofs.setting.dip_threshold_taken.Reads as dip_threshold_taken
use Rattle.limits.proofs.setting.duration_taken.Reads as duration_taken
use Rattle.limits.proofs.setting.forgetting_time_taken.Reads as forgetting_time_taken
use Rattle.limits.proofs.setting.gain_tau_taken.Reads as gain_tau_taken
use Rattle.limits.proofs.setting.min_gyr_taken.Reads as min_gyr_taken
use Rattle.limits.proofs.setting.norm_threshold_taken.Reads as norm_threshold_taken
use Rattle.limits.proofs.setting.ref_dip_taken.Reads as ref_dip_taken
use Rattle.limits.proofs.setting.ref_norm_taken.Reads as ref_norm_taken
use Rattle.limits.proofs.setting.rejection_factor_taken.Reads as rejection_factor_taken
use Rattle.limits.proofs.setting.sigma_taken.Reads as sigma_taken
use Rattle.limits.proofs.setting.tau_or_off_taken.Reads as tau_or_off_taken
use Rattle.limits.proofs.setting.tau_taken.Reads as tau_taken
use Rattle.limits.proofs.setting.threshold_taken.Reads as threshold_taken
use Rattle.limits.proofs.setting.vertical_factor_taken.Reads as vertical_factor_taken

pub record Limits : Type 0 where
  pub Answer_digit : OneResult Answer_digit.Learnt
  pub Answer_number : OneResult Answer_number.Learnt
  pub acc_taken : OneResult acc_taken.Learnt
  pub all_within : OneResult all_within.Learnt
  pub gyr_taken : OneResult gyr_taken.Learnt
  pub interval_taken : OneResult interval_taken.Learnt
  pub mag_taken : OneResult mag_taken.Learnt
  pub within : OneResult within.Learnt
  pub zero_sample : OneResult zero_sample.Learnt
  pub dip_threshold_taken : OneResult dip_threshold_taken.Learnt
  pub duration_taken : OneResult duration_taken.Learnt
  pub forgetting_time_taken : OneResult forgetting_time_taken.Learnt
  pub gain_tau_taken : OneResult gain_tau_taken.Learnt
  pub min_gyr_taken : OneResult min_gyr_taken.Learnt
  pub norm_threshold_taken : OneResult norm_threshold_taken.Learnt
  pub ref_dip_taken : OneResult ref_dip_taken.Learnt
  pub ref_norm_taken : OneResult ref_norm_taken.Learnt
  pub rejection_factor_taken : OneResult rejection_factor_taken.Learnt
  pub sigma_taken : OneResult sigma_taken.Learnt
  pub tau_or_off_taken : OneResult tau_or_off_taken.Learnt
  pub tau_taken : OneResult tau_taken.Learnt
  pub threshold_taken : OneResult threshold_taken.Learnt
  pub vertical_factor_taken : OneResult vertical_factor_taken.Learnt
