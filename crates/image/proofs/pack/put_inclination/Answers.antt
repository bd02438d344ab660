-- One run of numbers after another.
use Rattle.image.specs.Pack.{all_inclination, inclination}
use Rattle.image.proofs.Put.{put_put}
use Rattle.image.proofs.pack.put_inclination.Goals as goal

pub returns : goal.returns
unfolding all_inclination inclination
returns c = simp (c.put_channels.ensures, c.put.ensures, c.inclination.ensures)
    (put_put _ _ _ 56)
