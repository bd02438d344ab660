-- Both results are the definition's.
use Rattle.determined.specs.Numbers.{Numbers}
use Rattle.determined.proofs.OneResult.{equal}

pub numbers : Numbers
numbers = record {
  acos = λ κs a z z' e e'. equal;
  asin = λ κs a z z' e e'. equal;
  atan2 = λ κs a z z' e e'. equal;
  exp = λ κs a z z' e e'. equal;
  sqrt = λ κs a z z' e e'. equal;
  cos = λ κs a z z' e e'. equal;
  sin = λ κs a z z' e e'. equal;
  tan = λ κs a z z' e e'. equal;
}
