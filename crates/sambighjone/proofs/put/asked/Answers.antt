-- The answer to what is read of the image.
use Rattle.floats.specs.Prelude.{ap, ◌∙◌, eq-eqb}
use Rattle.sambighjone.specs.Calls.{given, asked}
use Rattle.sambighjone.proofs.put.asked.Goals as goal

pub returns : goal.returns
unfolding asked
returns g c = λ answer says. simp (eq-eqb _ _ c.if-image-ne-SIZE.false)
    (c.put.ensures ∙ ap (λ xs. given xs c.args.out.now) (c.as_slice.ensures ∙ says _ _ _ c.question-answer.ensures c.numbers.ensures ∙ ap answer c.unpack.ensures))
