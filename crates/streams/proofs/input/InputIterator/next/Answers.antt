use Rattle.std.proofs.Common.{◌≡◌, arith, sym, ◌∙◌}
use Rattle.streams.proofs.Taken.{spent, taken, filled}
use Rattle.streams.proofs.input.InputIterator.next.Goals as goal
use Rattle.streams.proofs.input.InputIterator.next.Goals.{then-self+in-Ok, else-self}

pub returns-clause-steps : goal.returns-clause-steps
returns-clause-steps g c =
    elim c.if-self.branch [
      | then-self+in-Ok w ↦
          let old : c.args.self.now ≡ g.R.Read.remaining c.self.inside.reader = sym c.self.view_is ∙ spent _ _ _ _ w.if-self.true in
          rw (w.self-inside-is, old)
          (filled _ _ _ _ (omega (arith, w.in-Ok.count-test.1)) w.in-Ok.ensures.bound.0 w.in-Ok.ensures.bytes.0)
      | else-self w ↦
          rw (w.self-inside-is, ← c.self.view_is)
          (taken _ c.self.inside.bytes c.self.inside.at c.self.inside.end (omega (arith, c.self.invariant.0, w.if-self.false)) (omega (arith, c.self.invariant.1, c.self.told)))
    ]
