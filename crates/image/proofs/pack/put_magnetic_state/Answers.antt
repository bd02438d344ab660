-- One run of numbers after another.
use Rattle.image.specs.Pack.{all_magnetic_state, magnetic_state}
use Rattle.image.proofs.Put.{put_put}
use Rattle.image.proofs.pack.put_magnetic_state.Goals as goal

pub returns : goal.returns
unfolding all_magnetic_state magnetic_state
returns c = simp (c.put_channels.ensures, c.put.ensures, c.magnetic_state.ensures)
    (put_put _ _ _ 150)
