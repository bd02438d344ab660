-- The setters, over the format w: each is that of the half that it sets. The disturbance switch and the reset set both halves.
use Rattle.std.specs.Prelude.{Bool, cond, Option, Float}
use Rattle.std.specs.Bool.{beq}
use Rattle.std.specs.Float.{Format}
use Rattle.algebra.specs.declared.vector.Vector.{Vector}
use Rattle.limits.specs.Answers.{Told, told}
use Rattle.inertial.specs.Setters as inertial
use Rattle.magnetic.specs.Setters as magnetic
use Rattle.vqf.specs.Told.{halves, inertially, magnetically}
use Rattle.vqf.specs.declared.types.VQF.{VQF}

unfoldable pub set_motion_bias_est_enabled : VQF → Bool → Told VQF
set_motion_bias_est_enabled f on = inertially f (told 0 (inertial.set_motion_bias_est_enabled f.inertial on))

module _ (w : Format) where
  unfoldable pub set_tau_acc : VQF → Float → Told VQF
  set_tau_acc f tau = inertially f (inertial.set_tau_acc w f.inertial tau)

  unfoldable pub set_tau_mag : VQF → Float → Told VQF
  set_tau_mag f tau = magnetically f (magnetic.set_tau_mag w f.magnetic tau)

  unfoldable pub set_rest_bias_est_enabled : VQF → Bool → Told VQF
  set_rest_bias_est_enabled f on = inertially f (told 0 (inertial.set_rest_bias_est_enabled w f.inertial on))

  -- a switch that does not change changes nothing
  unfoldable pub set_mag_dist_rejection_enabled : VQF → Bool → Told VQF
  set_mag_dist_rejection_enabled f on =
      cond (beq f.inertial.params.rest.mag_dist_rejection_enabled on) (told 0 f)
      (told 0 (halves (inertial.set_mag_dist_rejection_enabled f.inertial on) (magnetic.restarted w f.magnetic)))

  unfoldable pub set_rest_detection_thresholds : VQF → Float → Float → Told VQF
  set_rest_detection_thresholds f th_gyr th_acc = inertially f (inertial.set_rest_detection_thresholds w f.inertial th_gyr th_acc)

  unfoldable pub set_bias_estimate : VQF → Vector → Option Float → Told VQF
  set_bias_estimate f bias sigma = inertially f (inertial.set_bias_estimate w f.inertial bias sigma)

  unfoldable pub set_mag_ref : VQF → Float → Float → Told VQF
  set_mag_ref f norm dip = magnetically f (magnetic.set_mag_ref w f.magnetic norm dip)

  unfoldable pub reset_state : VQF → Told VQF
  reset_state f = told 0 (halves (inertial.reset_state w f.inertial) (magnetic.reset_state w f.magnetic))
