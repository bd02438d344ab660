-- Every public function of `image`: the image of a filter.
use Rattle.determined.specs.OneResult.{OneResult, OneResultAndLeft}
use Rattle.image.proofs.marks.channel.Reads as channel
use Rattle.image.proofs.marks.flag.Reads as flag
use Rattle.image.proofs.marks.marked.Reads as marked
use Rattle.image.proofs.marks.on.Reads as on
use Rattle.image.proofs.pack.pack.Reads as pack
use Rattle.image.proofs.pack.settings.Reads as settings
use Rattle.image.proofs.round_trip.Reads as round_trip
use Rattle.image.proofs.unpack.params.Reads as params
use Rattle.image.proofs.unpack.unpack.Reads as unpack

pub record Image : Type 0 where
  pub channel : OneResult channel.Learnt
  pub flag : OneResult flag.Learnt
  pub marked : OneResult marked.Learnt
  pub on : OneResult on.Learnt
  pub pack : OneResultAndLeft pack.Learnt (λ κs e. e.0.now)
  pub settings : OneResult settings.Learnt
  pub round_trip : OneResult round_trip.Learnt
  pub params : OneResult params.Learnt
  pub unpack : OneResult unpack.Learnt
