-- x - x is a zero exactly where x is finite.
use lib.Ieee.{binary64, of_bits}
use Rattle.floats.specs.SelfDifference.{finite_test}
use Rattle.floats.proofs.finite.Goals as goal

pub returns : goal.returns
unfolding of_bits
returns c = finite_test binary64 c.args.x
