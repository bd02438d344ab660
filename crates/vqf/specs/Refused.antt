-- A refused call leaves the filter as it was. Document 01, "When a call says no": "filter unchanged" stands beside every number but 0
-- (the constructor apart, which has no filter to leave).
use Rattle.std.specs.Prelude.{◌≡◌, ◌≢◌, List, [], ◌∷◌, ◌++◌, ℕ, None, Some}
use Rattle.std.specs.Float.{Format}
use Rattle.algebra.specs.declared.vector.Vector.{Vector}
use Rattle.inertial.specs.Calls.{update_gyr, update_acc}
use Rattle.magnetic.specs.Calls.{update_mag}
use Rattle.vqf.specs.Calls.{Call, on_inertial, on_magnetic, update, reply, run, answers}
use Rattle.vqf.specs.declared.types.VQF.{VQF}

-- no answer of a call is 0
abbrev pub AllRefused : List ℕ → Type 0
AllRefused [] = Unit {0}
AllRefused (n ∷ ns) = (n ≢ 0) × AllRefused ns

-- a call whose answers, one or three, are all refusals leaves the filter that it was given
abbrev pub Unchanged : Format → Type 0
Unchanged w = (f : VQF) (c : Call) → AllRefused (reply w f c).numbers → (reply w f c).left ≡ f

abbrev pub two_calls : Vector → Vector → List Call
two_calls gyr acc = on_inertial (update_gyr gyr) ∷ on_inertial (update_acc acc) ∷ []

abbrev pub three_calls : Vector → Vector → Vector → List Call
three_calls gyr acc mag = on_inertial (update_gyr gyr) ∷ on_inertial (update_acc acc) ∷ on_magnetic (update_mag mag) ∷ []

-- "`update` is its three calls in that order, with three answers; a refused one does not stop the next, and an absent magnetometer
-- sample answers 0 and changes nothing." So each part of an `update` that is refused leaves what the part before it left, by `Unchanged`.
pub record Threefold (w : Format) (f : VQF) (gyr acc : Vector) : Type 0 where
  pub left : (mag : Vector) → (reply w f (update gyr acc (Some mag))).left ≡ run w f (three_calls gyr acc mag)
  pub numbers : (mag : Vector) → (reply w f (update gyr acc (Some mag))).numbers ≡ answers w f (three_calls gyr acc mag)
  pub absent_left : (reply w f (update gyr acc None)).left ≡ run w f (two_calls gyr acc)
  pub absent_numbers : (reply w f (update gyr acc None)).numbers ≡ answers w f (two_calls gyr acc) ++ (0 ∷ [])

pub record Refused (w : Format) : Type 0 where
  pub unchanged : Unchanged w
  pub threefold : (f : VQF) (gyr acc : Vector) → Threefold w f gyr acc
