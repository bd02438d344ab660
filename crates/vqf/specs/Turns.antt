-- The turn of a gyro sample on the whole filter, whatever was given to the constructor and to the calls before it.
use Rattle.std.specs.Prelude.{List, Option, Float}
use Rattle.std.specs.Float.{Format}
use Rattle.inertial.specs.Turns.{HalfAngleServed, TurnFinite}
use Rattle.vqf.specs.Build.{new}
use Rattle.vqf.specs.Calls.{Call, run}
use Rattle.vqf.specs.declared.types.Params.{Params}

pub record Turns : Type 0 where
  pub half_angle : (w : Format) (gyr_ts : Float) (acc_ts mag_ts : Option Float) (given : Option Params) (calls : List Call) → HalfAngleServed w (run w (new w gyr_ts acc_ts mag_ts given).left calls).inertial
  pub finite : (w : Format) (gyr_ts : Float) (acc_ts mag_ts : Option Float) (given : Option Params) (calls : List Call) → TurnFinite w (run w (new w gyr_ts acc_ts mag_ts given).left calls).inertial
