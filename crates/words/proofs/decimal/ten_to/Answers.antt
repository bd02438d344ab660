-- Each entry of the table is the power of ten that stands at its place.
use Rattle.words.proofs.Exact.{ten_at}
use Rattle.words.proofs.decimal.ten_to.Goals as goal

pub returns : goal.returns
returns c = ten_at _ c.args.exponent.is_near
