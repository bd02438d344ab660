-- Both results are the definition's.
use Rattle.determined.specs.Draws.{Draws}
use Rattle.determined.proofs.OneResult.{equal}

pub draws : Draws
draws = record {
  next = λ κs a z z' e e'. equal;
}
