-- Every public function of `readable`: angles as a person reads them.
use Rattle.determined.specs.OneResult.{OneResult}
use Rattle.readable.proofs.heading.Reads as heading
use Rattle.readable.proofs.tilt.Reads as tilt
use Rattle.readable.proofs.to_tenths.Reads as to_tenths

pub record Readable : Type 0 where
  pub heading : OneResult heading.Learnt
  pub tilt : OneResult tilt.Learnt
  pub to_tenths : OneResult to_tenths.Learnt
