-- The six parts one after the other.
use Rattle.floats.specs.Prelude.{ap, ◌∙◌, List, Float}
use Rattle.image.specs.Put.{put}
use Rattle.image.proofs.Put.{put_pack}
use Rattle.image.proofs.pack.put_all.Goals as goal

pub returns : goal.returns
returns c = let l = c.args.image.now in
    put_pack c.args.f l c.told-image (c.put.ensures ∙ ap (λ (t : List Float). put t l 0) c.settings.ensures)
    c.put_coeffs.ensures c.put_inclination.ensures c.put_bias.ensures c.put_rest.ensures c.put_magnetic_state.ensures
