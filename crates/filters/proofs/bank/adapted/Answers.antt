-- After i turns the first i channels are adapted.
use Rattle.std.proofs.Common.{rules}
use Rattle.filters.specs.Banks.{adapted}
use Rattle.filters.proofs.Fill.{filling_none, filling_more, filling_done}
use Rattle.filters.proofs.bank.adapted.Goals as goal

pub loop-i-init : goal.loop-i-init
loop-i-init g c = filling_none

pub loop-i-preserved : goal.loop-i-preserved
loop-i-preserved g c = filling_more c.loop-i.invariant c.loop-i-test.true (search rules) c.filter_adapt_state_for_coeff_change.ensures

pub returns : goal.returns
unfolding adapted
returns g c = filling_done c.loop-i.invariant c.loop-i-test.false (search rules)
