-- Every public function of `script`: call scripts.
use Rattle.determined.specs.OneResult.{OneResult}
use Rattle.script.proofs.line.Line.request.Reads as Line_request
use Rattle.script.proofs.play.called.Reads as called
use Rattle.script.proofs.reader.Reader.with.Reads as Reader_with

pub record Script : Type 0 where
  pub Line_request : OneResult Line_request.Learnt
  pub called : OneResult called.Learnt
  pub Reader_with : OneResult Reader_with.Learnt
