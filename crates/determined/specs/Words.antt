-- Every public function of `words`: words, and the numbers among them.
use Rattle.determined.specs.OneResult.{OneResult}
use Rattle.words.proofs.word.Word.number.Reads as Word_number
use Rattle.words.proofs.word.Word.short.Reads as Word_short
use Rattle.words.proofs.word.Word.with.Reads as Word_with

pub record Words : Type 0 where
  pub Word_number : OneResult Word_number.Learnt
  pub Word_short : OneResult Word_short.Learnt
  pub Word_with : OneResult Word_with.Learnt
