-- One run of numbers after another.
use Rattle.image.specs.Pack.{all_rest, rest, channels}
use Rattle.image.proofs.Put.{put_three}
use Rattle.image.proofs.pack.put_rest.Goals as goal

pub returns : goal.returns
unfolding all_rest rest channels
returns c = simp (c.put_channels-2.ensures, c.put_channels.ensures, c.put.ensures, c.rest.ensures)
    (put_three _ _ _ _ 122)
