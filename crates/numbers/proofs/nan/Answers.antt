-- 0 / 0 is no number.
use Rattle.floats.specs.Prelude.{refl, div, of_bits}
use Rattle.numbers.proofs.nan.Goals as goal

pub returns : goal.returns
unfolding div of_bits
returns c = refl
