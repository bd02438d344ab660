-- After i turns the first i answers and channels are the definition's.
use Rattle.std.proofs.Common.{rules}
use Rattle.filters.specs.Banks.{outputs, channels}
use Rattle.filters.proofs.Fill.{filtering_none, filtering_more, filtering_done}
use Rattle.filters.proofs.bank.filter_vec.Goals as goal

pub loop-i-init : goal.loop-i-init
loop-i-init g c = filtering_none

pub loop-i-preserved : goal.loop-i-preserved
loop-i-preserved g c = filtering_more c.loop-i.invariant c.loop-i-test.true (search rules) (search rules) c.filter_channel-f.ensures

pub returns : goal.returns
unfolding outputs channels
returns g c = let done = filtering_done c.loop-i.invariant c.loop-i-test.false (search rules) (search rules) in λ j. record { y = done.0 j; channels = done.1 j }
