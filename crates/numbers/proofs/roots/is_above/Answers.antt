-- `numbers::is_above` meets its contract.
use Rattle.floats.specs.Prelude.{arith}
use Rattle.numbers.proofs.Halves.{low_square, cross, high_square, upper_is}
use Rattle.numbers.proofs.roots.is_above.Goals as goal

pub overflow_mul-t : goal.overflow_mul-t
overflow_mul-t c = omega (arith, low_square c.args.q)

pub overflow_add-t : goal.overflow_add-t
overflow_add-t c = omega (arith, low_square c.args.q)

pub overflow_mul-u-2 : goal.overflow_mul-u-2
overflow_mul-u-2 c = omega (arith, cross c.args.q c.requires)

pub overflow_add-u : goal.overflow_add-u
overflow_add-u c = omega (arith, cross c.args.q c.requires, low_square c.args.q)

pub overflow_mul-result : goal.overflow_mul-result
overflow_mul-result c = omega (arith, high_square c.args.q c.requires)

pub overflow_add-result : goal.overflow_add-result
overflow_add-result c = omega (arith, high_square c.args.q c.requires, cross c.args.q c.requires, low_square c.args.q)

pub returns : goal.returns
returns c = upper_is c.args.q c.args.c
