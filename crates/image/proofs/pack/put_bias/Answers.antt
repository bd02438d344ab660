-- One run of numbers after another.
use Rattle.image.specs.Pack.{all_bias, bias, channels}
use Rattle.image.proofs.Put.{put_three}
use Rattle.image.proofs.pack.put_bias.Goals as goal

pub returns : goal.returns
unfolding all_bias bias channels
returns c = simp (c.put_channels-2.ensures, c.put_channels.ensures, c.put.ensures, c.bias.ensures)
    (put_three _ _ _ _ 77)
