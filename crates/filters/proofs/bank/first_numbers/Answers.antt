-- After i turns the first i numbers are the channels' first.
use Rattle.std.proofs.lemmas.List.{length-replicate}
use Rattle.filters.specs.Banks.{first_numbers}
use Rattle.filters.proofs.Fill.{filling_none, filling_more, filling_done}
use Rattle.filters.proofs.bank.first_numbers.Goals as goal

pub loop-i-init : goal.loop-i-init
loop-i-init g c = filling_none

pub loop-i-preserved : goal.loop-i-preserved
loop-i-preserved g c = filling_more c.loop-i.invariant c.loop-i-test.true (length-replicate _ _) c.first_number.ensures

pub returns : goal.returns
unfolding first_numbers
returns g c = filling_done c.loop-i.invariant c.loop-i-test.false (length-replicate _ _)
