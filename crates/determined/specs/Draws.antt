-- Every public function of `draws`: what the programs draw.
use Rattle.determined.specs.OneResult.{OneResult}
use Rattle.draws.proofs.next.Reads as next

pub record Draws : Type 0 where
  pub next : OneResult next.Learnt
