-- Calls with everything magnetic struck out, and their answers, over the format w.
use Rattle.std.specs.Prelude.{Bool, true, false, cond, List, [], ◌∷◌, ◌++◌, ℕ, take, None}
use Rattle.std.specs.Float.{Format}
use Rattle.vqf.specs.Calls.{Call, on_inertial, on_magnetic, update, set_mag_dist_rejection_enabled, reset_state, reply}
use Rattle.vqf.specs.declared.types.VQF.{VQF}

-- "Magnetic calls are `update_mag`, `set_tau_mag` and `set_mag_ref`"; "`reset_state` and the disturbance switch setter are non-magnetic"
abbrev pub magnetic : Call → Bool
magnetic (on_inertial c) = false
magnetic (on_magnetic c) = true
magnetic (update g a m) = false
magnetic (set_mag_dist_rejection_enabled on) = false
magnetic reset_state = false

-- "An `update` counts its third part as magnetic"
abbrev pub without_sample : Call → Call
without_sample (on_inertial c) = on_inertial c
without_sample (on_magnetic c) = on_magnetic c
without_sample (update g a m) = update g a None
without_sample (set_mag_dist_rejection_enabled on) = set_mag_dist_rejection_enabled on
without_sample reset_state = reset_state

abbrev pub struck : List Call → List Call
struck [] = []
struck (c ∷ cs) = cond (magnetic c) (struck cs) (without_sample c ∷ struck cs)

-- the non-magnetic answers, refusals too: the first two of an `update`, which has three, and the one of any other call that is not magnetic
abbrev pub plain_answers : Format → VQF → List Call → List ℕ
plain_answers w f [] = []
plain_answers w f (c ∷ cs) = cond (magnetic c) [] (take 2 (reply w f c).numbers) ++ plain_answers w (reply w f c).left cs
