-- Every number of an inertial half that is built from settings that are taken is finite, rounding included. The proof is in proofs/Construction.antt.
use Rattle.std.specs.Prelude.{T, Float}
use Rattle.std.specs.Float.{Format}
use Rattle.inertial.specs.Setup.{taken, new}
use Rattle.inertial.specs.AllFinite.{all_finite}
use Rattle.inertial.specs.declared.types.InertialParams.{InertialParams}

abbrev pub NewFinite : Format → Type 0
NewFinite w = (p : InertialParams) (gyr_ts acc_ts : Float) → T (taken w p gyr_ts acc_ts) → T (all_finite (new w p gyr_ts acc_ts))
