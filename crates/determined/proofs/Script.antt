-- Both results are the definition's.
use Rattle.determined.specs.Script.{Script}
use Rattle.determined.proofs.OneResult.{call, equal}

pub script : Script
script = record {
  Line_request = λ κs a z z' e e'. equal;
  called = λ κs a z z' e e'. call;
  Reader_with = λ κs a z z' e e'. equal;
}
