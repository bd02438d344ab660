-- The calls of the filter as data, and what a list of them leaves and answers, over the format w.
use Rattle.std.specs.Prelude.{◌≡◌, Bool, List, [], ◌∷◌, ◌++◌, ℕ, Option, Float}
use Rattle.std.specs.Float.{Format}
use Rattle.algebra.specs.declared.vector.Vector.{Vector}
use Rattle.limits.specs.Answers.{Told}
use Rattle.inertial.specs.Calls as inertial
use Rattle.magnetic.specs.Calls as magnetic
use Rattle.vqf.specs.Told.{ToldAll, inertially, magnetically}
use Rattle.vqf.specs.Update as updates
use Rattle.vqf.specs.Setters as setters
use Rattle.vqf.specs.declared.types.VQF.{VQF}

-- on one half, the three calls of an `update`, or on both halves; `ByName` below has each by its name
pub data Call : Type 0 where
  on_inertial : inertial.Own → Call
  on_magnetic : magnetic.Call → Call
  update : Vector → Vector → Option Vector → Call
  set_mag_dist_rejection_enabled : Bool → Call
  reset_state : Call

-- the calls on the inertial half that a call makes: none where it is magnetic, two for an `update`
abbrev pub inertial_part : Call → List inertial.Call
inertial_part (on_inertial c) = inertial.own c ∷ []
inertial_part (on_magnetic c) = []
inertial_part (update g a m) = inertial.own (inertial.update_gyr g) ∷ inertial.own (inertial.update_acc a) ∷ []
inertial_part (set_mag_dist_rejection_enabled on) = inertial.set_mag_dist_rejection_enabled on ∷ []
inertial_part reset_state = inertial.reset_state ∷ []

abbrev pub inertial_calls : List Call → List inertial.Call
inertial_calls [] = []
inertial_calls (c ∷ cs) = inertial_part c ++ inertial_calls cs

-- a call's answers, three for `update` and one for any other, and the filter that it leaves
pub record Reply : Type 0 where
  pub numbers : List ℕ
  pub left : VQF

abbrev pub one_reply : Told VQF → Reply
one_reply t = record { numbers = t.number ∷ []; left = t.left }

abbrev pub three_replies : ToldAll → Reply
three_replies t = record { numbers = t.gyr ∷ t.acc ∷ t.mag ∷ []; left = t.left }

module _ (w : Format) where
  abbrev pub reply : VQF → Call → Reply
  reply f (on_inertial c) = one_reply (inertially f (inertial.reply w f.inertial (inertial.own c)))
  reply f (on_magnetic c) = one_reply (magnetically f (magnetic.reply w f.magnetic (updates.seen w f.inertial) c))
  reply f (update g a m) = three_replies (updates.update w f g a m)
  reply f (set_mag_dist_rejection_enabled on) = one_reply (setters.set_mag_dist_rejection_enabled w f on)
  reply f reset_state = one_reply (setters.reset_state w f)

  -- the filter after a list of calls, and their answers one after the other
  abbrev pub run : VQF → List Call → VQF
  run f [] = f
  run f (c ∷ cs) = run (reply f c).left cs

  abbrev pub answers : VQF → List Call → List ℕ
  answers f [] = []
  answers f (c ∷ cs) = (reply f c).numbers ++ answers (reply f c).left cs

  -- each of the fourteen calls, and the definition that its function promises
  pub record ByName (f : VQF) : Type 0 where
    pub gyr : (v : Vector) → reply f (on_inertial (inertial.update_gyr v)) ≡ one_reply (updates.update_gyr w f v)
    pub gyr_with_ts : (v : Vector) (ts : Float) → reply f (on_inertial (inertial.update_gyr_with_ts v ts)) ≡ one_reply (updates.update_gyr_with_ts w f v ts)
    pub acc : (v : Vector) → reply f (on_inertial (inertial.update_acc v)) ≡ one_reply (updates.update_acc w f v)
    pub mag : (v : Vector) → reply f (on_magnetic (magnetic.update_mag v)) ≡ one_reply (updates.update_mag w f v)
    pub all_three : (g a : Vector) (m : Option Vector) → reply f (update g a m) ≡ three_replies (updates.update w f g a m)
    pub tau_acc : (tau : Float) → reply f (on_inertial (inertial.set_tau_acc tau)) ≡ one_reply (setters.set_tau_acc w f tau)
    pub tau_mag : (tau : Float) → reply f (on_magnetic (magnetic.set_tau_mag tau)) ≡ one_reply (setters.set_tau_mag w f tau)
    pub motion : (on : Bool) → reply f (on_inertial (inertial.set_motion_bias_est_enabled on)) ≡ one_reply (setters.set_motion_bias_est_enabled f on)
    pub rest : (on : Bool) → reply f (on_inertial (inertial.set_rest_bias_est_enabled on)) ≡ one_reply (setters.set_rest_bias_est_enabled w f on)
    pub dist : (on : Bool) → reply f (set_mag_dist_rejection_enabled on) ≡ one_reply (setters.set_mag_dist_rejection_enabled w f on)
    pub thresholds : (g a : Float) → reply f (on_inertial (inertial.set_rest_detection_thresholds g a)) ≡ one_reply (setters.set_rest_detection_thresholds w f g a)
    pub bias : (v : Vector) (s : Option Float) → reply f (on_inertial (inertial.set_bias_estimate v s)) ≡ one_reply (setters.set_bias_estimate w f v s)
    pub mag_ref : (norm dip : Float) → reply f (on_magnetic (magnetic.set_mag_ref norm dip)) ≡ one_reply (setters.set_mag_ref w f norm dip)
    pub reset : reply f reset_state ≡ one_reply (setters.reset_state w f)
