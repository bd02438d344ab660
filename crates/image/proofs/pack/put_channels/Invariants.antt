use Rattle.floats.specs.Prelude.{◌≡◌}
use Rattle.image.specs.Put.{put}
use Rattle.image.specs.Pack.{channels}
use Rattle.image.proofs.pack.put_channels.Given as goal

abbrev pub invariant-loop-i : goal.invariant-loop-i
invariant-loop-i g l = l.image ≡ put (channels l.i l.x-items) l.initial.image l.at
