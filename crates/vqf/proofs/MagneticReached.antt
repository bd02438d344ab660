-- The magnetic half of every filter that is reached keeps its bounds: a refused construction leaves the house filter, and a call is made on the half as it stands
-- or leaves it.
use Rattle.floats.specs.Prelude.{Bool, Bool_beq, List, [], ◌∷◌, T, Float, Format, Option, None, Some}
use Rattle.floats.specs.Tests.{both, keeps}
use Rattle.algebra.specs.declared.vector.Vector.{Vector}
use Rattle.limits.specs.Answers.{Told, told}
use Rattle.magnetic.specs.Calls.{update_mag}
use Rattle.magnetic.proofs.HowFar as of_half
use Rattle.vqf.specs.Build.{house, interval_or, settings_or_house, taken, built, fresh, new}
use Rattle.vqf.specs.Update as updates
use Rattle.vqf.specs.Setters as setters
use Rattle.vqf.specs.Calls.{Call, on_inertial, on_magnetic, update, set_mag_dist_rejection_enabled, reset_state, reply, run}
use Rattle.vqf.specs.Construction.{all_taken}
use Rattle.vqf.specs.Types.{VQF, Params}
use Rattle.vqf.proofs.Construction.{house_within}

module _ (w : Format) where
  abbrev Half : VQF → Type 0
  Half f = of_half.Held w f.magnetic

  sample : (f : VQF) (m : Option Vector) → Half f → Half (updates.update_sample w f m).left
  unfolding updates.update_sample updates.update_mag
  sample f None h = h
  sample f (Some v) h = of_half.call_held w f.magnetic h (updates.seen w f.inertial) (update_mag v)

  switched : (f : VQF) (on : Bool) → Half f → Half (setters.set_mag_dist_rejection_enabled w f on).left
  unfolding setters.set_mag_dist_rejection_enabled
  switched f on h = keeps (λ (t : Told VQF). Half t.left) (Bool_beq f.inertial.params.rest.mag_dist_rejection_enabled on) (told 0 f) _ (λ _. h) (of_half.switched_held w f.magnetic h)

  step : (f : VQF) (c : Call) → Half f → Half (reply w f c).left
  unfolding updates.update_gyr updates.update_acc updates.update setters.reset_state
  step f (on_inertial c) h = h
  step f (on_magnetic c) h = of_half.call_held w f.magnetic h (updates.seen w f.inertial) c
  step f (update g a m) h = sample _ m h
  step f (set_mag_dist_rejection_enabled on) h = switched f on h
  step f reset_state h = of_half.reset_held w f.magnetic h

  steps : (f : VQF) (calls : List Call) → Half f → Half (run w f calls)
  steps f [] h = h
  steps f (c ∷ cs) h = steps (reply w f c).left cs (step f c h)

  of_built : (p : Params) (gyr_ts acc_ts mag_ts : Float) → T (taken w p gyr_ts acc_ts mag_ts) → Half (built w p gyr_ts acc_ts mag_ts)
  unfolding taken built
  of_built p gyr_ts acc_ts mag_ts t = of_half.new_held w p.magnetic mag_ts (simp both at t).1

  pub magnetic_reached : (gyr_ts : Float) (acc_ts mag_ts : Option Float) (given : Option Params) (calls : List Call) → Half (run w (new w gyr_ts acc_ts mag_ts given).left calls)
  unfolding new fresh
  magnetic_reached gyr_ts acc_ts mag_ts given calls =
      steps _ calls
      (keeps (λ (t : Told VQF). Half t.left) (all_taken w gyr_ts acc_ts mag_ts given) _ _
      (of_built (settings_or_house w given) gyr_ts (interval_or acc_ts gyr_ts) (interval_or mag_ts gyr_ts))
      (of_built (house w) _ _ _ (house_within w)))
