-- What the reader gives for the byte, or for the end of the line.
use Rattle.std.proofs.Common.{sym, ◌∙◌, ap}
use Rattle.script.proofs.ReadLines.{taken, ends, ends-last}
use Rattle.script.proofs.lines.LinesIterator.next.Goals as goal

pub returns-in-None-clause-steps : goal.returns-in-None-clause-steps
returns-in-None-clause-steps g c = rw c.with.ensures (ends-last _ _ _ _ c.loop-turn.invariant c.in-None.ensures.steps)

pub returns-then-reader-clause-steps : goal.returns-then-reader-clause-steps
returns-then-reader-clause-steps g c =
    rw c.with-reader.ensures
    (ends _ _ _ _ _ c.loop-turn.invariant (taken _ _ _ _ c.in-Some-Ok.field-0-is c.in-Some-Ok.ensures.steps) (sym (ap (λ r. r.is_ended) c.with-reader.ensures) ∙ c.if-reader.true))
