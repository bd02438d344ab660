-- The first bit is the sign.
use Rattle.floats.specs.Prelude.{sym, subst, T}
use Rattle.numbers.proofs.Patterns.{first_bit}
use Rattle.numbers.proofs.arcs.negative.Goals as goal

pub returns : goal.returns
returns c = rw c.to_bits.ensures (first_bit c.args.x (subst T (sym c.well_formed.0.1) tt))
