-- The mask is a remainder.
use Rattle.numbers.specs.Exponential.{power}
use Rattle.numbers.proofs.Patterns.{field_alone}
use Rattle.numbers.proofs.exponential.power.Goals as goal

pub returns : goal.returns
unfolding power
returns c = rw (c.from_bits.ensures, field_alone, c.to_bits.ensures)
