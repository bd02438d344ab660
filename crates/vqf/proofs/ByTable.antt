-- A call's answer is that of the half that it is made on. The parts of an `update` meet filters that hold finite numbers too.
use Rattle.floats.specs.Prelude.{refl, Bool, Bool_beq, [], ◌∷◌, T, Format, Option, None, Some}
use Rattle.floats.specs.Tests.{both, keeps}
use Rattle.algebra.specs.declared.vector.Vector.{Vector}
use Rattle.limits.specs.Answers.{Told, told}
use Rattle.limits.specs.Table.{faultless, Exactly}
use Rattle.limits.proofs.Table.{exactly}
use Rattle.inertial.specs.AllFinite as inertial
use Rattle.inertial.specs.Calls as on_half
use Rattle.inertial.proofs.Answers as of_inertial
use Rattle.inertial.proofs.FiniteCalls.{update_gyr_finite}
use Rattle.magnetic.specs.AllFinite as magnetic
use Rattle.magnetic.specs.Calls.{update_mag}
use Rattle.magnetic.proofs.Answers as of_magnetic
use Rattle.vqf.specs.AllFinite.{all_finite}
use Rattle.vqf.specs.Update as updates
use Rattle.vqf.specs.Setters as setters
use Rattle.vqf.specs.Calls.{on_inertial, on_magnetic, update, set_mag_dist_rejection_enabled, reset_state, run}
use Rattle.vqf.specs.Answers.{inertial_faults, sample_faults, Answers}
use Rattle.vqf.specs.Types.{VQF}

done : Exactly faultless 0
done = exactly faultless 0 refl

module _ (w : Format) where
  of_own : (f : VQF) (c : on_half.Own) → T (inertial.all_finite f.inertial) → Exactly (inertial_faults w f c) (on_half.reply w f.inertial (on_half.own c)).number
  of_own f c = (of_inertial.answers w).by_table f.inertial (on_half.own c)

  of_sample : (f : VQF) (m : Option Vector) → T (magnetic.all_finite f.magnetic) → Exactly (sample_faults w f m) (updates.update_sample w f m).number
  unfolding updates.update_sample updates.update_mag
  of_sample f None h = done
  of_sample f (Some v) h = (of_magnetic.answers w).by_table f.magnetic (updates.seen w f.inertial) (update_mag v) h

  of_switch : (f : VQF) (on : Bool) → Exactly faultless (setters.set_mag_dist_rejection_enabled w f on).number
  unfolding setters.set_mag_dist_rejection_enabled
  of_switch f on =
      keeps (λ (t : Told VQF). Exactly faultless t.number) (Bool_beq f.inertial.params.rest.mag_dist_rejection_enabled on) (told 0 f) _ (λ _. done) done

  pub answers : Answers w
  unfolding all_finite updates.update_gyr updates.update_acc updates.update setters.reset_state
  answers f (on_inertial c) h = (of_own f c (simp both at h).0, tt)
  answers f (on_magnetic c) h = ((of_magnetic.answers w).by_table f.magnetic (updates.seen w f.inertial) c (simp both at h).1, tt)
  answers f (update g a m) h =
      let k = simp both at h in
      let after_gyr = run w f (on_inertial (on_half.update_gyr g) ∷ []) in
      let after_acc = run w f (on_inertial (on_half.update_gyr g) ∷ on_inertial (on_half.update_acc a) ∷ []) in
      let h_gyr = update_gyr_finite w f.inertial g f.inertial.coeffs.gyr_ts k.0 in
      (of_own f (on_half.update_gyr g) k.0, (of_own after_gyr (on_half.update_acc a) h_gyr, (of_sample after_acc m k.1, tt)))
  answers f (set_mag_dist_rejection_enabled on) h = (of_switch f on, tt)
  answers f reset_state h = (done, tt)
