-- Digits and power are floats exactly, so their product is rounded once.
use Rattle.words.proofs.Exact.{times_ten}
use Rattle.words.proofs.decimal.times.Goals as goal

pub returns : goal.returns
returns c = simp (c.ten_to.ensures, c.nearest_u64_to_f64.ensures) (times_ten _ _ c.args.digits.is_short c.args.exponent.is_near)
