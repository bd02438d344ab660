-- After i turns the first i answers and channels are the definition's.
use Rattle.floats.specs.Prelude.{binary64}
use Rattle.filters.specs.Banks.{filtered}
use Rattle.filters.proofs.Fill.{Filtering}
use Rattle.filters.proofs.bank.filter_vec.Given as goal

abbrev pub invariant-loop-i : goal.invariant-loop-i
invariant-loop-i g l = Filtering (filtered binary64 l.x l.tau l.ts l.coeffs l.c) g.row.N l.x l.c l.y l.channels l.i
