-- Both results are the definition's.
use Rattle.determined.specs.Words.{Words}
use Rattle.determined.proofs.OneResult.{equal}

pub words : Words
words = record {
  Word_number = λ κs a z z' e e'. equal;
  Word_short = λ κs a z z' e e'. equal;
  Word_with = λ κs a z z' e e'. equal;
}
