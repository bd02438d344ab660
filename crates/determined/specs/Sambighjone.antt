-- Every public function of `sambighjone`: what C calls.
use Rattle.std.specs.Prelude.{List, ℕ, Float}
use Rattle.determined.specs.OneResult.{OneResultAndLeft}
use Rattle.sambighjone.proofs.ask.sambighjone_bias.Reads as sambighjone_bias
use Rattle.sambighjone.proofs.ask.sambighjone_delta.Reads as sambighjone_delta
use Rattle.sambighjone.proofs.ask.sambighjone_disturbed.Reads as sambighjone_disturbed
use Rattle.sambighjone.proofs.ask.sambighjone_mag_ref.Reads as sambighjone_mag_ref
use Rattle.sambighjone.proofs.ask.sambighjone_quat_3d.Reads as sambighjone_quat_3d
use Rattle.sambighjone.proofs.ask.sambighjone_quat_6d.Reads as sambighjone_quat_6d
use Rattle.sambighjone.proofs.ask.sambighjone_quat_9d.Reads as sambighjone_quat_9d
use Rattle.sambighjone.proofs.ask.sambighjone_relative_rest_deviations.Reads as sambighjone_relative_rest_deviations
use Rattle.sambighjone.proofs.ask.sambighjone_rest.Reads as sambighjone_rest
use Rattle.sambighjone.proofs.ask.sambighjone_settings.Reads as sambighjone_settings
use Rattle.sambighjone.proofs.build.sambighjone_build.Reads as sambighjone_build
use Rattle.sambighjone.proofs.build.sambighjone_fresh.Reads as sambighjone_fresh
use Rattle.sambighjone.proofs.feed.sambighjone_feed_acc.Reads as sambighjone_feed_acc
use Rattle.sambighjone.proofs.feed.sambighjone_feed_gyr.Reads as sambighjone_feed_gyr
use Rattle.sambighjone.proofs.feed.sambighjone_feed_gyr_with_ts.Reads as sambighjone_feed_gyr_with_ts
use Rattle.sambighjone.proofs.feed.sambighjone_feed_mag.Reads as sambighjone_feed_mag
use Rattle.sambighjone.proofs.set.sambighjone_reset_state.Reads as sambighjone_reset_state
use Rattle.sambighjone.proofs.set.sambighjone_set_bias_estimate.Reads as sambighjone_set_bias_estimate
use Rattle.sambighjone.proofs.set.sambighjone_set_bias_estimate_with_sigma.Reads as sambighjone_set_bias_estimate_with_sigma
use Rattle.sambighjone.proofs.set.sambighjone_set_mag_dist_rejection_enabled.Reads as sambighjone_set_mag_dist_rejection_enabled
use Rattle.sambighjone.proofs.set.sambighjone_set_mag_ref.Reads as sambighjone_set_mag_ref
use Rattle.sambighjone.proofs.set.sambighjone_set_motion_bias_est_enabled.Reads as sambighjone_set_motion_bias_est_enabled
use Rattle.sambighjone.proofs.set.sambighjone_set_rest_bias_est_enabled.Reads as sambighjone_set_rest_bias_est_enabled
use Rattle.sambighjone.proofs.set.sambighjone_set_rest_detection_thresholds.Reads as sambighjone_set_rest_detection_thresholds
use Rattle.sambighjone.proofs.set.sambighjone_set_tau_acc.Reads as sambighjone_set_tau_acc
use Rattle.sambighjone.proofs.set.sambighjone_set_tau_mag.Reads as sambighjone_set_tau_mag
use Rattle.sambighjone.proofs.update.sambighjone_update.Reads as sambighjone_update

pub record Sambighjone : Type 0 where
  pub sambighjone_bias : OneResultAndLeft sambighjone_bias.Learnt (λ κs e. e.1.0.now)
  pub sambighjone_delta : OneResultAndLeft sambighjone_delta.Learnt (λ κs e. e.1.0.now)
  pub sambighjone_disturbed : OneResultAndLeft sambighjone_disturbed.Learnt (λ κs e. e.1.0.now)
  pub sambighjone_mag_ref : OneResultAndLeft sambighjone_mag_ref.Learnt (λ κs e. e.1.0.now)
  pub sambighjone_quat_3d : OneResultAndLeft sambighjone_quat_3d.Learnt (λ κs e. e.1.0.now)
  pub sambighjone_quat_6d : OneResultAndLeft sambighjone_quat_6d.Learnt (λ κs e. e.1.0.now)
  pub sambighjone_quat_9d : OneResultAndLeft sambighjone_quat_9d.Learnt (λ κs e. e.1.0.now)
  pub sambighjone_relative_rest_deviations : OneResultAndLeft sambighjone_relative_rest_deviations.Learnt (λ κs e. e.1.0.now)
  pub sambighjone_rest : OneResultAndLeft sambighjone_rest.Learnt (λ κs e. e.1.0.now)
  pub sambighjone_settings : OneResultAndLeft sambighjone_settings.Learnt (λ κs e. e.1.0.now)
  pub sambighjone_build : OneResultAndLeft sambighjone_build.Learnt (λ κs e. e.0.now)
  pub sambighjone_fresh : OneResultAndLeft sambighjone_fresh.Learnt (λ κs e. e.0.now)
  pub sambighjone_feed_acc : OneResultAndLeft sambighjone_feed_acc.Learnt (λ κs e. e.0.now)
  pub sambighjone_feed_gyr : OneResultAndLeft sambighjone_feed_gyr.Learnt (λ κs e. e.0.now)
  pub sambighjone_feed_gyr_with_ts : OneResultAndLeft sambighjone_feed_gyr_with_ts.Learnt (λ κs e. e.0.now)
  pub sambighjone_feed_mag : OneResultAndLeft sambighjone_feed_mag.Learnt (λ κs e. e.0.now)
  pub sambighjone_reset_state : OneResultAndLeft sambighjone_reset_state.Learnt (λ κs e. e.0.now)
  pub sambighjone_set_bias_estimate : OneResultAndLeft sambighjone_set_bias_estimate.Learnt (λ κs e. e.0.now)
  pub sambighjone_set_bias_estimate_with_sigma : OneResultAndLeft sambighjone_set_bias_estimate_with_sigma.Learnt (λ κs e. e.0.now)
  pub sambighjone_set_mag_dist_rejection_enabled : OneResultAndLeft sambighjone_set_mag_dist_rejection_enabled.Learnt (λ κs e. e.0.now)
  pub sambighjone_set_mag_ref : OneResultAndLeft sambighjone_set_mag_ref.Learnt (λ κs e. e.0.now)
  pub sambighjone_set_motion_bias_est_enabled : OneResultAndLeft sambighjone_set_motion_bias_est_enabled.Learnt (λ κs e. e.0.now)
  pub sambighjone_set_rest_bias_est_enabled : OneResultAndLeft sambighjone_set_rest_bias_est_enabled.Learnt (λ κs e. e.0.now)
  pub sambighjone_set_rest_detection_thresholds : OneResultAndLeft sambighjone_set_rest_detection_thresholds.Learnt (λ κs e. e.0.now)
  pub sambighjone_set_tau_acc : OneResultAndLeft sambighjone_set_tau_acc.Learnt (λ κs e. e.0.now)
  pub sambighjone_set_tau_mag : OneResultAndLeft sambighjone_set_tau_mag.Learnt (λ κs e. e.0.now)
  pub sambighjone_update : OneResultAndLeft {L = List Float × List ℕ} sambighjone_update.Learnt (λ κs e. (e.0.now, e.1.1.0.now))
