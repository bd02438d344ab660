-- `numbers::by_floats` promises nothing of its result; the two patterns that it reads are below a NaN's.
use Rattle.floats.specs.Prelude.{ℕ, ◌≤◌, arith, not, T, binary64, nan_bits}
use Rattle.floats.specs.NoNan.{number_bits}
use Rattle.numbers.proofs.roots.by_floats.Goals as goal

below : (n : ℕ) → n ≤ 0x7ff0_0000_0000_0000 → T (not (nan_bits binary64 n))
below n h = number_bits binary64 n (omega arith)

pub float_from_bits-y : goal.float_from_bits-y
float_from_bits-y c = below _ (omega arith)

pub float_from_bits-step : goal.float_from_bits-step
float_from_bits-step c = below _ (omega arith)
