-- After i turns the flag says whether the first i channels are finite.
use Rattle.filters.specs.Channels.{finite_channel}
use Rattle.filters.specs.Banks.{channel}
use Rattle.filters.proofs.Fill.{Checking}
use Rattle.filters.proofs.bank.finite_channels.Given as goal

abbrev pub invariant-loop-channel : goal.invariant-loop-channel
invariant-loop-channel g l = Checking (λ j. finite_channel (channel l.fn.c j)) g.row.N l.all l.channel-index
