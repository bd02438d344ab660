-- What the magnetic half is told to give, and how a part of a record is put in the place of another: the one place for each record.
use Rattle.std.specs.Prelude.{Bool, List, Float}
use Rattle.filters.specs.declared.channel.Channel.{Channel}
pub use Rattle.limits.specs.Answers.{told_of}
use Rattle.magnetic.specs.declared.types.Field.{Field}
use Rattle.magnetic.specs.declared.types.Heading.{Heading}
use Rattle.magnetic.specs.declared.types.NormDip.{NormDip}
use Rattle.magnetic.specs.declared.types.MagneticState.{MagneticState}
use Rattle.magnetic.specs.declared.types.Magnetic.{Magnetic}

abbrev pub state_of : Heading → Field → MagneticState
state_of h f = record { heading = h; field = f }

abbrev pub with_state : Magnetic → MagneticState → Magnetic
with_state f s = record f { state = s }

abbrev pub norm_dip : Float → Float → NormDip
norm_dip norm dip = record { 0 = norm; 1 = dip }

-- ---- the parts of a field
abbrev pub reference : Field → NormDip
reference f = norm_dip f.mag_ref_norm f.mag_ref_dip

abbrev pub candidate : Field → NormDip
candidate f = norm_dip f.mag_candidate_norm f.mag_candidate_dip

abbrev pub with_reference : Field → Bool → NormDip → Float → Field
with_reference f detected x undisturbed_t =
    record f { mag_dist_detected = detected; mag_ref_norm = x.0; mag_ref_dip = x.1; mag_undisturbed_t = undisturbed_t }

abbrev pub with_candidate : Field → NormDip → Float → Field
with_candidate f x t = record f { mag_candidate_norm = x.0; mag_candidate_dip = x.1; mag_candidate_t = t }

abbrev pub with_norm_dip : Field → NormDip → List Channel → Field
with_norm_dip f x channels = record f { mag_norm_dip = x; mag_norm_dip_lp_state = channels }

unfoldable pub with_reject_t : Field → Float → Field
with_reject_t f t = record f { mag_reject_t = t }
