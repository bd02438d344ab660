-- A refused call on one half leaves that half as it was (`kept` of `inertial` and `magnetic`), and it is put back beside the other. What acts on both halves
-- is never refused.
use Rattle.floats.specs.Prelude.{refl, ◌∙◌, Bool, Bool_beq, Format, Option, None, Some}
use Rattle.floats.specs.Tests.{keeps}
use Rattle.algebra.specs.declared.vector.Vector.{Vector}
use Rattle.limits.specs.Answers.{Told, Kept}
use Rattle.inertial.specs.Calls as inertial
use Rattle.inertial.proofs.Answers as of_inertial
use Rattle.inertial.specs.declared.types.Inertial.{Inertial}
use Rattle.magnetic.specs.Calls as magnetic
use Rattle.magnetic.proofs.Answers as of_magnetic
use Rattle.magnetic.specs.declared.types.Magnetic.{Magnetic}
use Rattle.vqf.specs.Told.{inertially, magnetically}
use Rattle.vqf.specs.Update as updates
use Rattle.vqf.specs.Setters as setters
use Rattle.vqf.specs.Calls.{on_inertial, on_magnetic, update, set_mag_dist_rejection_enabled, reset_state}
use Rattle.vqf.specs.Refused.{Unchanged, Threefold, Refused}
use Rattle.vqf.specs.Types.{VQF}

whole_inertial : (f : VQF) (t : Told Inertial) → Kept f.inertial t → Kept f (inertially f t)
whole_inertial f t k h i = record { inertial = k h i; magnetic = f.magnetic }

whole_magnetic : (f : VQF) (t : Told Magnetic) → Kept f.magnetic t → Kept f (magnetically f t)
whole_magnetic f t k h i = record { inertial = f.inertial; magnetic = k h i }

module _ (w : Format) where
  inertial_kept : (f : VQF) (c : inertial.Own) → Kept f (inertially f (inertial.reply w f.inertial (inertial.own c)))
  inertial_kept f c = whole_inertial f _ ((of_inertial.answers w).kept f.inertial (inertial.own c))

  magnetic_kept : (f : VQF) (c : magnetic.Call) → Kept f (magnetically f (magnetic.reply w f.magnetic (updates.seen w f.inertial) c))
  magnetic_kept f c = whole_magnetic f _ ((of_magnetic.answers w).kept f.magnetic (updates.seen w f.inertial) c)

  sample_kept : (f : VQF) (m : Option Vector) → Kept f (updates.update_sample w f m)
  unfolding updates.update_sample updates.update_mag
  sample_kept f None h = refl
  sample_kept f (Some v) h = magnetic_kept f (magnetic.update_mag v) h

  switch_kept : (f : VQF) (on : Bool) → Kept f (setters.set_mag_dist_rejection_enabled w f on)
  unfolding setters.set_mag_dist_rejection_enabled
  switch_kept f on = keeps (Kept f) (Bool_beq f.inertial.params.rest.mag_dist_rejection_enabled on) _ _ (λ _ _. refl) (λ h. absurd (h refl))

  unchanged : Unchanged w
  unfolding updates.update_gyr updates.update_acc updates.update setters.reset_state
  unchanged f (on_inertial c) h = inertial_kept f c h.0
  unchanged f (on_magnetic c) h = magnetic_kept f c h.0
  unchanged f (update g a m) h =
      let after_gyr : VQF = (updates.update_gyr w f g).left in
      let after_acc : VQF = (updates.update_acc w after_gyr a).left in
      sample_kept after_acc m h.1.1.0 ∙ inertial_kept after_gyr (inertial.update_acc a) h.1.0 ∙ inertial_kept f (inertial.update_gyr g) h.0
  unchanged f (set_mag_dist_rejection_enabled on) h = switch_kept f on h.0
  unchanged f reset_state h = absurd (h.0 refl)

  threefold : (f : VQF) (gyr acc : Vector) → Threefold w f gyr acc
  unfolding updates.update_gyr updates.update_acc updates.update_mag updates.update updates.update_sample
  threefold f gyr acc = record { left = λ mag. refl; numbers = λ mag. refl; absent_left = refl; absent_numbers = refl }

  pub refused : Refused w
  refused = record { unchanged = unchanged; threefold = threefold }
