-- Both results are the definition's.
use Rattle.determined.specs.Image.{Image}
use Rattle.determined.proofs.OneResult.{lent, equal}

pub image : Image
image = record {
  channel = λ κs a z z' e e'. equal;
  flag = λ κs a z z' e e'. equal;
  marked = λ κs a z z' e e'. equal;
  on = λ κs a z z' e e'. equal;
  pack = λ κs a z z' e e'. lent;
  settings = λ κs a z z' e e'. equal;
  round_trip = λ κs a z z' e e'. equal;
  params = λ κs a z z' e e'. equal;
  unpack = λ κs a z z' e e'. equal;
}
