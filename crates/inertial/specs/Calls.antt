-- The calls of the inertial half as data, and what a list of them leaves and answers, over the format w.
use Rattle.std.specs.Prelude.{Bool, List, [], ◌∷◌, ℕ, Option, Float}
use Rattle.std.specs.Float.{Format}
use Rattle.algebra.specs.declared.vector.Vector.{Vector}
use Rattle.limits.specs.Answers.{Told, told}
use Rattle.inertial.specs.Gyr as gyr
use Rattle.inertial.specs.Acc as acc
use Rattle.inertial.specs.Setters as setters
use Rattle.inertial.specs.declared.types.Inertial.{Inertial}

-- the calls on this half alone
pub data Own : Type 0 where
  update_gyr update_acc : Vector → Own
  update_gyr_with_ts : Vector → Float → Own
  set_tau_acc : Float → Own
  set_motion_bias_est_enabled set_rest_bias_est_enabled : Bool → Own
  set_rest_detection_thresholds : Float → Float → Own
  set_bias_estimate : Vector → Option Float → Own

-- the calls that reach it: its own, and its part of those on both halves
pub data Call : Type 0 where
  own : Own → Call
  set_mag_dist_rejection_enabled : Bool → Call
  reset_state : Call

-- a call and what it was answered
pub record Answered : Type 0 where
  pub call : Call
  pub number : ℕ

-- calls and their answers, in order
abbrev pub answered : List Call → List ℕ → List Answered
answered [] ns = []
answered (c ∷ cs) [] = []
answered (c ∷ cs) (n ∷ ns) = record { call = c; number = n } ∷ answered cs ns

module _ (w : Format) where
  abbrev pub reply : Inertial → Call → Told Inertial
  reply f (own (update_gyr v)) = gyr.update_gyr w f v
  reply f (own (update_acc v)) = acc.update_acc w f v
  reply f (own (update_gyr_with_ts v ts)) = gyr.update_gyr_with_ts w f v ts
  reply f (own (set_tau_acc tau)) = setters.set_tau_acc w f tau
  reply f (own (set_motion_bias_est_enabled on)) = told 0 (setters.set_motion_bias_est_enabled f on)
  reply f (own (set_rest_bias_est_enabled on)) = told 0 (setters.set_rest_bias_est_enabled w f on)
  reply f (set_mag_dist_rejection_enabled on) = told 0 (setters.set_mag_dist_rejection_enabled f on)
  reply f (own (set_rest_detection_thresholds g a)) = setters.set_rest_detection_thresholds w f g a
  reply f (own (set_bias_estimate v sigma)) = setters.set_bias_estimate w f v sigma
  reply f reset_state = told 0 (setters.reset_state w f)

  abbrev pub run : Inertial → List Call → Inertial
  run f [] = f
  run f (c ∷ cs) = run (reply f c).left cs

  abbrev pub answers : Inertial → List Call → List ℕ
  answers f [] = []
  answers f (c ∷ cs) = (reply f c).number ∷ answers (reply f c).left cs
