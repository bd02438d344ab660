-- What is read of the line so far is in the reader.
use Rattle.script.proofs.ReadLines.{GoesOn}
use Rattle.script.proofs.lines.LinesIterator.next.Given as goal

abbrev pub invariant-loop-turn : goal.invariant-loop-turn
invariant-loop-turn g l = GoesOn l.initial.self.input l.reader l.self.input
