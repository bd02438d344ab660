-- The constructor and the fresh house filter, over the format w.
use Rattle.std.specs.Prelude.{Bool, cond, ◌&&◌, Option, unwrap_or, Float}
use Rattle.std.specs.Float.{Format}
use Rattle.floats.specs.Decimals.{hundredth}
use Rattle.limits.specs.Answers.{Told, told}
use Rattle.inertial.specs.Setup as inertial
use Rattle.magnetic.specs.Setup as magnetic
use Rattle.vqf.specs.Told.{halves}
use Rattle.vqf.specs.declared.types.Params.{Params}
use Rattle.vqf.specs.declared.types.VQF.{VQF}

abbrev pub house_interval : Format → Float
house_interval = hundredth

abbrev pub interval_or : Option Float → Float → Float
interval_or = unwrap_or

module _ (w : Format) where
  unfoldable pub house : Params
  house = record { inertial = inertial.house w; magnetic = magnetic.house w }

  abbrev pub settings_or_house : Option Params → Params
  settings_or_house given = unwrap_or given house

  unfoldable pub taken : Params → Float → Float → Float → Bool
  taken p gyr_ts acc_ts mag_ts = inertial.taken w p.inertial gyr_ts acc_ts && magnetic.taken w p.magnetic mag_ts

  unfoldable pub built : Params → Float → Float → Float → VQF
  built p gyr_ts acc_ts mag_ts = halves (inertial.new w p.inertial gyr_ts acc_ts) (magnetic.new w p.magnetic mag_ts)

  unfoldable pub fresh : VQF
  fresh = built house (house_interval w) (house_interval w) (house_interval w)

  unfoldable pub new : Float → Option Float → Option Float → Option Params → Told VQF
  new gyr_ts acc_given mag_given given =
      let acc_ts = interval_or acc_given gyr_ts in
      let mag_ts = interval_or mag_given gyr_ts in
      let p = settings_or_house given in
      cond (taken p gyr_ts acc_ts mag_ts) (told 0 (built p gyr_ts acc_ts mag_ts)) (told 4 fresh)
