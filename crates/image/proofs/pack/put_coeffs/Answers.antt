-- One run of numbers after another.
use Rattle.image.specs.Pack.{all_coeffs, inertial_coeffs}
use Rattle.image.proofs.Put.{put_put}
use Rattle.image.proofs.pack.put_coeffs.Goals as goal

pub returns : goal.returns
unfolding all_coeffs inertial_coeffs
returns c = simp (c.put-2.ensures, c.put.ensures, c.magnetic_coeffs.ensures, c.inertial_coeffs.ensures)
    (put_put _ _ _ 25)
