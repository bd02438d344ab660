-- A gyro sample that is taken turns the reader by an angle at whose half sine and cosine are given, and leaves a finite quaternion. The proof is in proofs/Turns.antt.
use Rattle.std.specs.Prelude.{List, T, Float}
use Rattle.std.specs.Float.{Format}
use Rattle.std.specs.Float.Ieee.{sub}
use Rattle.floats.specs.Notation.{zero}
use Rattle.floats.specs.Order.{Within}
use Rattle.numbers.specs.HalfAngles.{half_angle, largest}
use Rattle.algebra.specs.Vectors.{both}
use Rattle.algebra.specs.declared.vector.Vector.{Vector}
use Rattle.limits.specs.Limits.{gyr_taken, interval_taken}
use Rattle.inertial.specs.Setup.{taken, new}
use Rattle.inertial.specs.Calls.{Call, run}
use Rattle.inertial.specs.Answers.{quat_of}
use Rattle.inertial.specs.declared.types.Inertial.{Inertial}
use Rattle.inertial.specs.declared.types.InertialParams.{InertialParams}

-- the rate of a turn: the sample less the bias
abbrev pub rate : (w : Format) → Inertial → Vector → Vector
rate w f gyr = both (sub w) gyr f.state.bias.bias

-- ---- Of a filter, whatever sample and interval it takes:
-- half the angle of the turn is at most `largest`, every rounding included, which lies within the domain of sine and cosine (numbers/specs/HalfAngles.antt)
abbrev pub HalfAngleServed : (w : Format) → Inertial → Type 0
HalfAngleServed w f =
    (gyr : Vector) (ts : Float) → T (gyr_taken w gyr) → T (interval_taken w ts)
    → let v = rate w f gyr in Within (half_angle w v.0 v.1 v.2 ts) (zero w) (largest w)

-- the turn leaves a finite quaternion, so it is no cause of a 6
abbrev pub TurnFinite : (w : Format) → Inertial → Type 0
TurnFinite w f = (gyr : Vector) (ts : Float) → T (gyr_taken w gyr) → T (interval_taken w ts) → T (quat_of w f gyr ts).finite

-- ---- So it is after any calls from an accepted construction.
pub record Turns : Type 0 where
  pub half_angle : (w : Format) (p : InertialParams) (gyr_ts acc_ts : Float) (calls : List Call) → T (taken w p gyr_ts acc_ts) → HalfAngleServed w (run w (new w p gyr_ts acc_ts) calls)
  pub finite : (w : Format) (p : InertialParams) (gyr_ts acc_ts : Float) (calls : List Call) → T (taken w p gyr_ts acc_ts) → TurnFinite w (run w (new w p gyr_ts acc_ts) calls)
