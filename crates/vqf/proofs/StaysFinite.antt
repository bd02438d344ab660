-- A filter that was built holds finite numbers, and each call keeps them so: the half that it is made on by the lemmas of that half, the other half as it was.
-- A bias is held to the clip, which is finite in radians because a construction took it and no call changes it.
use Rattle.floats.specs.Prelude.{Bool, Bool_beq, List, [], ◌∷◌, T, Float, Format, and_i, Option, None, Some}
use Rattle.floats.specs.Tests.{both, keeps}
use Rattle.algebra.specs.declared.vector.Vector.{Vector}
use Rattle.limits.specs.Answers.{Told, told}
use Rattle.inertial.specs.AllFinite as inertial
use Rattle.inertial.specs.Calls.{update_gyr, update_acc, update_gyr_with_ts, set_tau_acc, set_motion_bias_est_enabled, set_rest_bias_est_enabled, set_rest_detection_thresholds, set_bias_estimate}
use Rattle.inertial.proofs.BiasLimit.{ClipTaken}
use Rattle.inertial.proofs.BiasReached.{reached_held}
use Rattle.inertial.proofs.FiniteCalls as of_inertial
use Rattle.magnetic.specs.AllFinite as magnetic
use Rattle.magnetic.specs.Fields.{finite_field}
use Rattle.inertial.specs.declared.types.Inertial.{Inertial}
use Rattle.magnetic.specs.Calls.{update_mag, set_tau_mag, set_mag_ref}
use Rattle.magnetic.proofs.FiniteCalls as of_magnetic
use Rattle.magnetic.specs.declared.types.Magnetic.{Magnetic}
use Rattle.vqf.specs.AllFinite.{all_finite}
use Rattle.vqf.specs.Build.{new}
use Rattle.vqf.specs.Told.{halves, inertially, magnetically}
use Rattle.vqf.specs.Update as updates
use Rattle.vqf.specs.Setters as setters
use Rattle.vqf.specs.Calls.{Call, on_inertial, on_magnetic, update, set_mag_dist_rejection_enabled, reset_state, reply, run}
use Rattle.vqf.specs.StaysFinite.{StaysFinite}
use Rattle.vqf.specs.Types.{VQF, Params}
use Rattle.vqf.proofs.Construction.{construction}
use Rattle.vqf.proofs.Reached.{reached}

abbrev pub Finite : VQF → Type 0
Finite f = T (all_finite f)

-- ---- the halves
pub inertial_half : (f : VQF) → Finite f → T (inertial.all_finite f.inertial)
unfolding all_finite
inertial_half f h = (simp both at h).0

magnetic_half : (f : VQF) → Finite f → T (magnetic.all_finite f.magnetic)
unfolding all_finite
magnetic_half f h = (simp both at h).1

-- flags are no numbers: what a half holds is opened down to its numbers
put_inertial : (f : VQF) (i : Inertial) → Finite f → T (inertial.all_finite i) → Finite (inertially f (told 0 i)).left
unfolding all_finite inertial.all_finite inertial.finite_params inertial.finite_bias_params inertial.finite_state
put_inertial f i h k = and_i (inertial.all_finite i) (magnetic.all_finite f.magnetic) k (magnetic_half f h)

put_magnetic : (f : VQF) (m : Magnetic) → Finite f → T (magnetic.all_finite m) → Finite (magnetically f (told 0 m)).left
unfolding all_finite magnetic.all_finite magnetic.finite_state finite_field
put_magnetic f m h k = and_i (inertial.all_finite f.inertial) (magnetic.all_finite m) (inertial_half f h) k

put_both : (i : Inertial) (m : Magnetic) → T (inertial.all_finite i) → T (magnetic.all_finite m) → Finite (halves i m)
unfolding all_finite
put_both i m = and_i (inertial.all_finite i) (magnetic.all_finite m)

module _ (w : Format) where
  -- ---- the clip, after any calls
  abbrev Clipped : VQF → Type 0
  Clipped f = (calls : List Call) → ClipTaken w (run w f calls).inertial

  leaves_clipped : (gyr_ts : Float) (acc_ts mag_ts : Option Float) (given : Option Params) → Clipped (new w gyr_ts acc_ts mag_ts given).left
  leaves_clipped = reached w (ClipTaken w) (λ p gyr_ts acc_ts calls t. (reached_held w p gyr_ts acc_ts calls t).0)

  -- ---- the calls
  gyr : (f : VQF) (v : Vector) (ts : Float) → Finite f → Finite (updates.update_gyr_with_ts w f v ts).left
  unfolding updates.update_gyr_with_ts
  gyr f v ts h = put_inertial f _ h (of_inertial.update_gyr_finite w f.inertial v ts (inertial_half f h))

  gyr_at_its_interval : (f : VQF) (v : Vector) → Finite f → Finite (updates.update_gyr w f v).left
  unfolding updates.update_gyr
  gyr_at_its_interval f v h = put_inertial f _ h (of_inertial.update_gyr_finite w f.inertial v f.inertial.coeffs.gyr_ts (inertial_half f h))

  acc : (f : VQF) (v : Vector) → Finite f → Finite (updates.update_acc w f v).left
  unfolding updates.update_acc
  acc f v h = put_inertial f _ h (of_inertial.update_acc_finite w f.inertial v (inertial_half f h))

  mag : (f : VQF) (v : Vector) → Finite f → Finite (updates.update_mag w f v).left
  unfolding updates.update_mag
  mag f v h = put_magnetic f _ h (of_magnetic.update_mag_finite w f.magnetic (updates.seen w f.inertial) v (magnetic_half f h))

  sample : (f : VQF) (m : Option Vector) → Finite f → Finite (updates.update_sample w f m).left
  unfolding updates.update_sample
  sample f None h = h
  sample f (Some v) h = mag f v h

  switched : (f : VQF) (on : Bool) → Finite f → Finite (setters.set_mag_dist_rejection_enabled w f on).left
  unfolding setters.set_mag_dist_rejection_enabled
  switched f on h =
      keeps (λ (t : Told VQF). Finite t.left) (Bool_beq f.inertial.params.rest.mag_dist_rejection_enabled on) (told 0 f) _ (λ _. h)
      (put_both _ _ (of_inertial.set_dist_finite w f.inertial on (inertial_half f h)) (of_magnetic.restarted_finite w f.magnetic (magnetic_half f h)))

  step : (f : VQF) (c : Call) → ClipTaken w f.inertial → Finite f → Finite (reply w f c).left
  unfolding updates.update_gyr updates.update_gyr_with_ts updates.update_acc updates.update_mag updates.update setters.set_tau_acc setters.set_tau_mag setters.set_motion_bias_est_enabled setters.set_rest_bias_est_enabled setters.set_rest_detection_thresholds setters.set_bias_estimate setters.set_mag_ref setters.reset_state
  step f (on_inertial (update_gyr v)) k h = gyr_at_its_interval f v h
  step f (on_inertial (update_acc v)) k h = acc f v h
  step f (on_magnetic (update_mag v)) k h = mag f v h
  step f (on_inertial (update_gyr_with_ts v ts)) k h = gyr f v ts h
  step f (update g a m) k h = sample _ m (acc _ a (gyr_at_its_interval f g h))
  step f (on_inertial (set_tau_acc tau)) k h = put_inertial f _ h (of_inertial.set_tau_acc_finite w f.inertial tau (inertial_half f h))
  step f (on_magnetic (set_tau_mag tau)) k h = put_magnetic f _ h (of_magnetic.set_tau_mag_finite w f.magnetic tau (magnetic_half f h))
  step f (on_inertial (set_motion_bias_est_enabled on)) k h = put_inertial f _ h (of_inertial.set_motion_finite w f.inertial on (inertial_half f h))
  step f (on_inertial (set_rest_bias_est_enabled on)) k h = put_inertial f _ h (of_inertial.set_rest_finite w f.inertial on (inertial_half f h))
  step f (set_mag_dist_rejection_enabled on) k h = switched f on h
  step f (on_inertial (set_rest_detection_thresholds g a)) k h = put_inertial f _ h (of_inertial.set_thresholds_finite w f.inertial g a (inertial_half f h))
  step f (on_magnetic (set_mag_ref norm dip)) k h = put_magnetic f _ h (of_magnetic.set_mag_ref_finite w f.magnetic norm dip (magnetic_half f h))
  step f (on_inertial (set_bias_estimate v sigma)) k h = put_inertial f _ h (of_inertial.set_bias_finite w f.inertial v sigma k (inertial_half f h))
  step f reset_state k h = put_both _ _ (of_inertial.reset_finite w f.inertial (inertial_half f h)) (of_magnetic.reset_finite w f.magnetic (magnetic_half f h))

  steps : (f : VQF) (calls : List Call) → Clipped f → Finite f → Finite (run w f calls)
  steps f [] k h = h
  steps f (c ∷ cs) k h = steps (reply w f c).left cs (λ ds. k (c ∷ ds)) (step f c (k []) h)

  pub stays_finite : StaysFinite w
  stays_finite gyr_ts acc_ts mag_ts given calls = steps _ calls (leaves_clipped gyr_ts acc_ts mag_ts given) (construction.leaves_finite w gyr_ts acc_ts mag_ts given)
