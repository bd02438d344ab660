-- Above the bits of an infinity stand a NaN's, and 0.0 / 0.0 is the one NaN.
use Rattle.floats.specs.Prelude.{sym, subst, ℕ, ◌≤◌, ◌<◌, and_mask, binary64, div, of_bits}
use Rattle.floats.specs.NoNan.{number_bits, nan_bits_lem}
use Rattle.floats.proofs.from_bits.Goals as goal

pub float_from_bits-result : goal.float_from_bits-result
float_from_bits-result c = number_bits binary64 c.args.n (subst (λ (n : ℕ). n ≤ 0x7ff0_0000_0000_0000) (and_mask c.args.n 63) c.if-n-gt9218868437227405312.false)

pub returns-then-n-gt9218868437227405312 : goal.returns-then-n-gt9218868437227405312
returns-then-n-gt9218868437227405312 c = unfold div of_bits in sym (nan_bits_lem binary64 c.args.n (subst (λ (n : ℕ). 0x7ff0_0000_0000_0000 < n) (and_mask c.args.n 63) c.if-n-gt9218868437227405312.true))
