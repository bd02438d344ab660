-- Both results are the definition's.
use Rattle.determined.specs.Readable.{Readable}
use Rattle.determined.proofs.OneResult.{equal}

pub readable : Readable
readable = record {
  heading = λ κs a z z' e e'. equal;
  tilt = λ κs a z z' e e'. equal;
  to_tenths = λ κs a z z' e e'. equal;
}
