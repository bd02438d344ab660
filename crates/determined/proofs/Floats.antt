-- Both results are the definition's.
use Rattle.determined.specs.Floats.{Floats}
use Rattle.determined.proofs.OneResult.{equal}

pub floats : Floats
floats = record {
  clamp = λ κs a z z' e e'. equal;
  finite = λ κs a z z' e e'. equal;
  from_bits = λ κs a z z' e e'. equal;
  larger = λ κs a z z' e e'. equal;
  magnitude = λ κs a z z' e e'. equal;
  smaller = λ κs a z z' e e'. equal;
  to_bits = λ κs a z z' e e'. equal;
}
