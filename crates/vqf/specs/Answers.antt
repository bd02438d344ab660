-- The table of refusals: for every call, each number exactly when document 01's row says, in its order 2, 3, 4, 1, 5, 6.
-- The rows are those of `Exactly` (specs/Table.antt of `limits`); what is wrong with a call on one half is told in specs/Answers.antt of `inertial` and
-- `magnetic`, where the matrix to invert and what a call would leave have their names.
use Rattle.std.specs.Prelude.{List, [], ◌∷◌, T, Option, None, Some}
use Rattle.std.specs.Float.{Format}
use Rattle.algebra.specs.declared.vector.Vector.{Vector}
use Rattle.limits.specs.Table.{Faults, faultless, AllExactly}
use Rattle.inertial.specs.Answers as inertial
use Rattle.inertial.specs.Calls.{Own, own, update_gyr, update_acc}
use Rattle.magnetic.specs.Answers as magnetic
use Rattle.magnetic.specs.Calls as of_magnetic
use Rattle.vqf.specs.AllFinite.{all_finite}
use Rattle.vqf.specs.Update.{seen}
use Rattle.vqf.specs.Calls.{Call, on_inertial, on_magnetic, update, set_mag_dist_rejection_enabled, reset_state, reply, run}
use Rattle.vqf.specs.declared.types.VQF.{VQF}

module _ (w : Format) where
  abbrev pub inertial_faults : VQF → Own → Faults
  inertial_faults f c = inertial.faults w f.inertial (own c)

  abbrev pub magnetic_faults : VQF → of_magnetic.Call → Faults
  magnetic_faults f c = magnetic.faults w f.magnetic (seen w f.inertial) c

  -- "an absent magnetometer sample answers 0"
  abbrev pub sample_faults : VQF → Option Vector → Faults
  sample_faults f None = faultless
  sample_faults f (Some v) = magnetic_faults f (of_magnetic.update_mag v)

  -- what is wrong with a call, for each of its answers; "`update` is its three calls in that order"
  abbrev pub faults : VQF → Call → List Faults
  faults f (on_inertial c) = inertial_faults f c ∷ []
  faults f (on_magnetic c) = magnetic_faults f c ∷ []
  faults f (update g a m) =
      inertial_faults f (update_gyr g)
      ∷ inertial_faults (run w f (on_inertial (update_gyr g) ∷ [])) (update_acc a)
      ∷ sample_faults (run w f (on_inertial (update_gyr g) ∷ on_inertial (update_acc a) ∷ [])) m
      ∷ []
  faults f (set_mag_dist_rejection_enabled on) = faultless ∷ []
  faults f reset_state = faultless ∷ []

  -- on every filter that holds finite numbers, as every filter that was built does (specs/StaysFinite.antt)
  abbrev pub Answers : Type 0
  Answers = (f : VQF) (c : Call) → T (all_finite f) → AllExactly (faults f c) (reply w f c).numbers
