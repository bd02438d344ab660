-- Nothing breaks it: whatever is given to the constructor and to the calls after it, every number that the filter holds stays finite.
use Rattle.std.specs.Prelude.{List, T, Option, Float}
use Rattle.std.specs.Float.{Format}
use Rattle.vqf.specs.AllFinite.{all_finite}
use Rattle.vqf.specs.Build.{new}
use Rattle.vqf.specs.Calls.{Call, run}
use Rattle.vqf.specs.declared.types.Params.{Params}

-- "a number the call would store is NaN or infinite: 6, filter unchanged"
abbrev pub StaysFinite : Format → Type 0
StaysFinite w =
    (gyr_ts : Float) (acc_ts mag_ts : Option Float) (given : Option Params) (calls : List Call)
    → T (all_finite (run w (new w gyr_ts acc_ts mag_ts given).left calls))
