-- The call by value, on what is read of the image.
use Rattle.floats.specs.Prelude.{ap, ◌∙◌}
use Rattle.sambighjone.specs.Calls.{kept, fed}
use Rattle.sambighjone.proofs.kept.fed.Goals as goal

pub returns : goal.returns
unfolding fed
returns g c = λ step says. c.keep.ensures ∙ ap (kept c.args.image.now) (says _ _ c.call-u.ensures ∙ ap step c.unpack.ensures)
