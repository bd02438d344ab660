-- After i turns the flag says whether the first i channels are finite.
use Rattle.filters.specs.Banks.{finite_channels}
use Rattle.filters.proofs.Fill.{checking_none, checking_more, checking_done}
use Rattle.filters.proofs.bank.finite_channels.Goals as goal

pub loop-channel-init : goal.loop-channel-init
loop-channel-init g c = checking_none

pub loop-channel-preserved : goal.loop-channel-preserved
loop-channel-preserved g c = checking_more c.loop-channel.invariant c.loop-channel-test.true c.finite_channel-all.ensures

pub returns : goal.returns
unfolding finite_channels
returns g c = checking_done c.loop-channel.invariant c.loop-channel-test.false
