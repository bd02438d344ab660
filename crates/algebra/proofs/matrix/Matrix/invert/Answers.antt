-- By what the calls ensure and the tests on the way. Two answers have names because a wrong program has to show each of them.
use Rattle.algebra.specs.Matrices.{invert}
use Rattle.algebra.proofs.matrix.Matrix.invert.Goals as goal

pub returns-else-finite : goal.returns-else-finite
unfolding invert
returns-else-finite c = simp (← c.finite.ensures, ← c.determinant-det.ensures, ← c.adjugate-cofactors.ensures, c.if-finite.false, c.if-det.false)

pub returns-then-det : goal.returns-then-det
unfolding invert
returns-then-det c = simp (simp (c.determinant-det.ensures, c.adjugate-cofactors.ensures) at c.if-det.true)

pub returns-then-finite : goal.returns-then-finite
unfolding invert
returns-then-finite c = simp (c.divided.ensures, simp (c.finite.ensures, c.determinant-det.ensures, c.adjugate-cofactors.ensures) at c.if-finite.true, simp (c.determinant-det.ensures, c.adjugate-cofactors.ensures) at c.if-det.false, c.determinant-det.ensures, c.adjugate-cofactors.ensures)
