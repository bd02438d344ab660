-- `unpack` undoes `pack`; the types of the code give each bank its length.
use Rattle.floats.specs.Prelude.{ap, ◌∙◌}
use Rattle.std.proofs.Common.{rules}
use Rattle.image.specs.Image.{unpack}
use Rattle.image.proofs.Inverse.{unpack_pack}
use Rattle.image.proofs.round_trip.Goals as goal

pub returns : goal.returns
returns c =
    c.unpack.ensures
    ∙ ap unpack c.pack.ensures.1
    ∙ unpack_pack c.args.f (record {
      acc_lp = search rules;
      rlp = search rules;
      bias_lp = search rules;
      rest_gyr_lp = search rules;
      rest_acc_lp = search rules;
      norm_dip_lp = search rules;
    })
