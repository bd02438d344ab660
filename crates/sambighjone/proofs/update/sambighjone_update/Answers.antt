-- The call by value, on what is read of the image and of the samples.
use Rattle.floats.specs.Prelude.{sym, ◌∙◌, eq-eqb, ne_eqb}
use Rattle.sambighjone.proofs.Laws.{updated_done, updated_refused}
use Rattle.sambighjone.proofs.update.sambighjone_update.Goals.{then-image-ne-SIZE-via-then-image-ne-SIZE, then-image-ne-SIZE-via-else-image-ne-SIZE+then-answers-ne3, then-image-ne-SIZE-via-else-image-ne-SIZE+else-answers-ne3+then-not-sampled}
use Rattle.sambighjone.proofs.update.sambighjone_update.Goals as goal

pub returns-then-image-ne-SIZE : goal.returns-then-image-ne-SIZE
returns-then-image-ne-SIZE c = updated_refused _ _ _ (elim c.then-image-ne-SIZE.branch [
  | then-image-ne-SIZE-via-then-image-ne-SIZE w ↦ simp (ne_eqb _ _ w.if-image-ne-SIZE.true)
  | then-image-ne-SIZE-via-else-image-ne-SIZE+then-answers-ne3 w ↦ simp (eq-eqb _ _ w.if-image-ne-SIZE.false, ne_eqb _ _ w.if-answers-ne3.true)
  | then-image-ne-SIZE-via-else-image-ne-SIZE+else-answers-ne3+then-not-sampled w ↦ simp (eq-eqb _ _ w.if-image-ne-SIZE.false, eq-eqb _ _ w.if-answers-ne3.false, sym w.sampled.ensures ∙ w.if-not-sampled.true)
])

pub returns : goal.returns
returns c = updated_done _ _ _ c.stepped-all.result c.summed_up.result _ _
    (eq-eqb _ _ c.if-image-ne-SIZE.false) (eq-eqb _ _ c.if-answers-ne3.false) (sym c.sampled.ensures ∙ c.if-not-sampled.false)
    c.stepped-all.ensures c.summed_up.ensures (simp (c.number-3.ensures, c.number-2.ensures, c.number.ensures) at c.put.ensures) c.keep.ensures
