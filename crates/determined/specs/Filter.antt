-- Every public function of `vqf`: the filter.
use Rattle.determined.specs.OneResult.{OneResult}
use Rattle.vqf.proofs.types.Params.house.Reads as Params_house
use Rattle.vqf.proofs.types.VQF.bias_estimate.Reads as VQF_bias_estimate
use Rattle.vqf.proofs.types.VQF.coeffs.Reads as VQF_coeffs
use Rattle.vqf.proofs.types.VQF.delta.Reads as VQF_delta
use Rattle.vqf.proofs.types.VQF.fresh.Reads as VQF_fresh
use Rattle.vqf.proofs.types.VQF.inertially.Reads as VQF_inertially
use Rattle.vqf.proofs.types.VQF.mag_dist_detected.Reads as VQF_mag_dist_detected
use Rattle.vqf.proofs.types.VQF.mag_ref_dip.Reads as VQF_mag_ref_dip
use Rattle.vqf.proofs.types.VQF.mag_ref_norm.Reads as VQF_mag_ref_norm
use Rattle.vqf.proofs.types.VQF.magnetically.Reads as VQF_magnetically
use Rattle.vqf.proofs.types.VQF.new.Reads as VQF_new
use Rattle.vqf.proofs.types.VQF.params.Reads as VQF_params
use Rattle.vqf.proofs.types.VQF.quat_3d.Reads as VQF_quat_3d
use Rattle.vqf.proofs.types.VQF.quat_6d.Reads as VQF_quat_6d
use Rattle.vqf.proofs.types.VQF.quat_9d.Reads as VQF_quat_9d
use Rattle.vqf.proofs.types.VQF.relative_rest_deviations.Reads as VQF_relative_rest_deviations
use Rattle.vqf.proofs.types.VQF.reset_state.Reads as VQF_reset_state
use Rattle.vqf.proofs.types.VQF.rest_detected.Reads as VQF_rest_detected
use Rattle.vqf.proofs.types.VQF.set_bias_estimate.Reads as VQF_set_bias_estimate
use Rattle.vqf.proofs.types.VQF.set_mag_dist_rejection_enabled.Reads as VQF_set_mag_dist_rejection_enabled
use Rattle.vqf.proofs.types.VQF.set_mag_ref.Reads as VQF_set_mag_ref
use Rattle.vqf.proofs.types.VQF.set_motion_bias_est_enabled.Reads as VQF_set_motion_bias_est_enabled
use Rattle.vqf.proofs.types.VQF.set_rest_bias_est_enabled.Reads as VQF_set_rest_bias_est_enabled
use Rattle.vqf.proofs.types.VQF.set_rest_detection_thresholds.Reads as VQF_set_rest_detection_thresholds
use Rattle.vqf.proofs.types.VQF.set_tau_acc.Reads as VQF_set_tau_acc
use Rattle.vqf.proofs.types.VQF.set_tau_mag.Reads as VQF_set_tau_mag
use Rattle.vqf.proofs.types.VQF.state.Reads as VQF_state
use Rattle.vqf.proofs.types.VQF.update.Reads as VQF_update
use Rattle.vqf.proofs.types.VQF.update_acc.Reads as VQF_update_acc
use Rattle.vqf.proofs.types.VQF.update_gyr.Reads as VQF_update_gyr
use Rattle.vqf.proofs.types.VQF.update_gyr_with_ts.Reads as VQF_update_gyr_with_ts
use Rattle.vqf.proofs.types.VQF.update_mag.Reads as VQF_update_mag

pub record Filter : Type 0 where
  pub Params_house : OneResult Params_house.Learnt
  pub VQF_bias_estimate : OneResult VQF_bias_estimate.Learnt
  pub VQF_coeffs : OneResult VQF_coeffs.Learnt
  pub VQF_delta : OneResult VQF_delta.Learnt
  pub VQF_fresh : OneResult VQF_fresh.Learnt
  pub VQF_inertially : OneResult VQF_inertially.Learnt
  pub VQF_mag_dist_detected : OneResult VQF_mag_dist_detected.Learnt
  pub VQF_mag_ref_dip : OneResult VQF_mag_ref_dip.Learnt
  pub VQF_mag_ref_norm : OneResult VQF_mag_ref_norm.Learnt
  pub VQF_magnetically : OneResult VQF_magnetically.Learnt
  pub VQF_new : OneResult VQF_new.Learnt
  pub VQF_params : OneResult VQF_params.Learnt
  pub VQF_quat_3d : OneResult VQF_quat_3d.Learnt
  pub VQF_quat_6d : OneResult VQF_quat_6d.Learnt
  pub VQF_quat_9d : OneResult VQF_quat_9d.Learnt
  pub VQF_relative_rest_deviations : OneResult VQF_relative_rest_deviations.Learnt
  pub VQF_reset_state : OneResult VQF_reset_state.Learnt
  pub VQF_rest_detected : OneResult VQF_rest_detected.Learnt
  pub VQF_set_bias_estimate : OneResult VQF_set_bias_estimate.Learnt
  pub VQF_set_mag_dist_rejection_enabled : OneResult VQF_set_mag_dist_rejection_enabled.Learnt
  pub VQF_set_mag_ref : OneResult VQF_set_mag_ref.Learnt
  pub VQF_set_motion_bias_est_enabled : OneResult VQF_set_motion_bias_est_enabled.Learnt
  pub VQF_set_rest_bias_est_enabled : OneResult VQF_set_rest_bias_est_enabled.Learnt
  pub VQF_set_rest_detection_thresholds : OneResult VQF_set_rest_detection_thresholds.Learnt
  pub VQF_set_tau_acc : OneResult VQF_set_tau_acc.Learnt
  pub VQF_set_tau_mag : OneResult VQF_set_tau_mag.Learnt
  pub VQF_state : OneResult VQF_state.Learnt
  pub VQF_update : OneResult VQF_update.Learnt
  pub VQF_update_acc : OneResult VQF_update_acc.Learnt
  pub VQF_update_gyr : OneResult VQF_update_gyr.Learnt
  pub VQF_update_gyr_with_ts : OneResult VQF_update_gyr_with_ts.Learnt
  pub VQF_update_mag : OneResult VQF_update_mag.Learnt
