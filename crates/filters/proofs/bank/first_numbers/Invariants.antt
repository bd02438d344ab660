-- After i turns the first i numbers are the channels' first.
use Rattle.filters.specs.Channels.{first_number}
use Rattle.filters.specs.Banks.{channel}
use Rattle.filters.proofs.Fill.{Filling}
use Rattle.filters.proofs.bank.first_numbers.Given as goal

abbrev pub invariant-loop-i : goal.invariant-loop-i
invariant-loop-i g l = Filling (λ j. first_number (channel l.c j)) g.row.N l.initial.numbers l.numbers l.i
