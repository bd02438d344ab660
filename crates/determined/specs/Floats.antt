-- Every public function of `floats`: floats.
use Rattle.determined.specs.OneResult.{OneResult}
use Rattle.floats.proofs.clamp.Reads as clamp
use Rattle.floats.proofs.finite.Reads as finite
use Rattle.floats.proofs.from_bits.Reads as from_bits
use Rattle.floats.proofs.larger.Reads as larger
use Rattle.floats.proofs.magnitude.Reads as magnitude
use Rattle.floats.proofs.smaller.Reads as smaller
use Rattle.floats.proofs.to_bits.Reads as to_bits

pub record Floats : Type 0 where
  pub clamp : OneResult clamp.Learnt
  pub finite : OneResult finite.Learnt
  pub from_bits : OneResult from_bits.Learnt
  pub larger : OneResult larger.Learnt
  pub magnitude : OneResult magnitude.Learnt
  pub smaller : OneResult smaller.Learnt
  pub to_bits : OneResult to_bits.Learnt
