-- After i turns the first i channels are written.
use Rattle.floats.specs.Prelude.{refl, sym, ap, ◌∙◌, ◌+◌, ◌*◌, List, ℕ, add-one, le_antisymm, arith, Float}
use Rattle.image.specs.Put.{put}
use Rattle.image.specs.Pack.{one_channel, channels}
use Rattle.image.proofs.Put.{put_channel}
use Rattle.image.proofs.pack.put_channels.Goals as goal

pub loop-i-init : goal.loop-i-init
unfolding put channels
loop-i-init g c = refl

pub put-requires : goal.put-requires
put-requires g c = rw c.triple.ensures (omega arith)

pub loop-i-preserved : goal.loop-i-preserved
loop-i-preserved g c = let s = c.args in
    let i = c.loop-i.i in
    let at = s.at + 3 * i in
    c.put.ensures
    ∙ ap (λ (t : List Float). put t c.loop-i.image at) c.triple.ensures
    ∙ ap (λ (t : List Float). put (one_channel s.c i) t at) c.loop-i.invariant
    ∙ put_channel s.c s.image.now i s.at
    ∙ ap (λ (n : ℕ). put (channels n s.c) s.image.now s.at) (sym (add-one i))

pub returns : goal.returns
returns g c = let s = c.args in
    c.loop-i.invariant ∙ ap (λ (n : ℕ). put (channels n s.c) s.image.now s.at) (le_antisymm c.loop-i.auto.i-end c.loop-i-test.false)
