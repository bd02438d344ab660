-- After i turns the first i channels are adapted.
use Rattle.filters.specs.Channels.{filter_adapt_state_for_coeff_change}
use Rattle.filters.specs.Banks.{sample, channel}
use Rattle.filters.proofs.Fill.{Filling}
use Rattle.filters.proofs.bank.adapted.Given as goal

abbrev pub invariant-loop-i : goal.invariant-loop-i
invariant-loop-i g l = Filling (λ j. filter_adapt_state_for_coeff_change (sample l.last_y j) l.old l.new (channel l.c j)) g.row.N l.c l.channels l.i
