-- Digits and power are floats exactly, so their quotient is rounded once.
use Rattle.words.proofs.Exact.{over_ten}
use Rattle.words.proofs.decimal.over.Goals as goal

pub returns : goal.returns
returns c = simp (c.ten_to.ensures, c.nearest_u64_to_f64.ensures) (over_ten _ _ c.args.digits.is_short c.args.exponent.is_near)
