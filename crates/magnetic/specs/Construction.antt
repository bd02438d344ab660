-- Every number of a magnetic half that is built from settings that are taken is finite, rounding included. The proof is in proofs/Construction.antt.
use Rattle.std.specs.Prelude.{T, Float}
use Rattle.std.specs.Float.{Format}
use Rattle.magnetic.specs.Setup.{taken, new}
use Rattle.magnetic.specs.AllFinite.{all_finite}
use Rattle.magnetic.specs.declared.types.MagneticParams.{MagneticParams}

abbrev pub NewFinite : Format → Type 0
NewFinite w = (p : MagneticParams) (ts : Float) → T (taken w p ts) → T (all_finite (new w p ts))
