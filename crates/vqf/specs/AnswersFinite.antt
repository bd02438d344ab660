-- Asked at any time, the filter answers with finite numbers, whatever was given to the constructor and to the calls before.
use Rattle.std.specs.Prelude.{List, T, Option, Float}
use Rattle.std.specs.Float.{Format}
use Rattle.std.specs.Float.Ieee.Scale.{finite}
use Rattle.algebra.specs.Vectors as vectors
use Rattle.algebra.specs.Quaternions as quaternions
use Rattle.vqf.specs.Asked as asked
use Rattle.vqf.specs.Build.{new}
use Rattle.vqf.specs.Calls.{Call, run}
use Rattle.vqf.specs.declared.types.VQF.{VQF}
use Rattle.vqf.specs.declared.types.Params.{Params}

pub record AnswersFinite (w : Format) (f : VQF) : Type 0 where
  pub quat_3d : T (quaternions.finite (asked.quat_3d f))
  pub quat_6d : T (quaternions.finite (asked.quat_6d w f))
  pub quat_9d : T (quaternions.finite (asked.quat_9d w f))
  pub delta : T (finite (asked.delta f))
  pub bias : T (vectors.finite (asked.bias_estimate w f).bias)
  pub bias_sigma : T (finite (asked.bias_estimate w f).sigma)
  pub gyr_deviation : T (finite (asked.relative_rest_deviations w f).0)
  pub acc_deviation : T (finite (asked.relative_rest_deviations w f).1)
  pub mag_ref_norm : T (finite (asked.mag_ref_norm f))
  pub mag_ref_dip : T (finite (asked.mag_ref_dip f))

abbrev pub AnswersStayFinite : Format → Type 0
AnswersStayFinite w =
    (gyr_ts : Float) (acc_ts mag_ts : Option Float) (given : Option Params) (calls : List Call)
    → AnswersFinite w (run w (new w gyr_ts acc_ts mag_ts given).left calls)
