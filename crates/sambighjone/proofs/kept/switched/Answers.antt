-- The call by value, on what is read of the image, where the switch is 0 or 1.
use Rattle.floats.specs.Prelude.{ap, ◌∙◌, eqb, le-ltb}
use Rattle.sambighjone.specs.Calls.{kept, fed, switched}
use Rattle.sambighjone.proofs.kept.switched.Goals as goal

pub returns : goal.returns
unfolding fed switched
returns g c = λ step says. simp (le-ltb _ _ c.if-on-gt1.false) (c.keep.ensures ∙ ap (kept c.args.image.now) (says _ _ _ c.set-u.ensures ∙ ap (λ f. step f (eqb c.args.on 1)) c.unpack.ensures))
