-- Every public function of `numbers`: the root and the elementary functions.
use Rattle.determined.specs.OneResult.{OneResult}
use Rattle.numbers.proofs.arcs.acos.Reads as acos
use Rattle.numbers.proofs.arcs.asin.Reads as asin
use Rattle.numbers.proofs.arcs.atan2.Reads as atan2
use Rattle.numbers.proofs.exponential.exp.Reads as exp
use Rattle.numbers.proofs.roots.sqrt.Reads as sqrt
use Rattle.numbers.proofs.sines.cos.Reads as cos
use Rattle.numbers.proofs.sines.sin.Reads as sin
use Rattle.numbers.proofs.sines.tan.Reads as tan

pub record Numbers : Type 0 where
  pub acos : OneResult acos.Learnt
  pub asin : OneResult asin.Learnt
  pub atan2 : OneResult atan2.Learnt
  pub exp : OneResult exp.Learnt
  pub sqrt : OneResult sqrt.Learnt
  pub cos : OneResult cos.Learnt
  pub sin : OneResult sin.Learnt
  pub tan : OneResult tan.Learnt
