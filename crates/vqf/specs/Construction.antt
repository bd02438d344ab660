-- Construction, as document 01 tells it under "House settings" and "When a call says no".
use Rattle.std.specs.Prelude.{◌≡◌, ◌⊎◌, Bool, true, false, T, Option, None, Float}
use Rattle.std.specs.Float.{Format}
use Rattle.limits.specs.Answers.{told}
use Rattle.vqf.specs.Build.{house_interval, interval_or, settings_or_house, taken, fresh, new}
use Rattle.vqf.specs.AllFinite.{all_finite}
use Rattle.vqf.specs.declared.types.Params.{Params}

-- whether all that is given is within limits
abbrev pub all_taken : Format → Float → Option Float → Option Float → Option Params → Bool
all_taken w gyr_ts acc_ts mag_ts given = taken w (settings_or_house w given) gyr_ts (interval_or acc_ts gyr_ts) (interval_or mag_ts gyr_ts)

pub record Construction : Type 0 where
  -- "0: done"; "4: any setting .. or constructor interval outside limits". There is no other answer
  pub zero_or_four :
      (w : Format) (gyr_ts : Float) (acc_ts mag_ts : Option Float) (given : Option Params)
      → ((all_taken w gyr_ts acc_ts mag_ts given ≡ true) × ((new w gyr_ts acc_ts mag_ts given).number ≡ 0))
      ⊎ ((all_taken w gyr_ts acc_ts mag_ts given ≡ false) × ((new w gyr_ts acc_ts mag_ts given).number ≡ 4))
  -- "constructor: a fresh house filter beside the 4"
  pub fresh_beside_four :
      (w : Format) (gyr_ts : Float) (acc_ts mag_ts : Option Float) (given : Option Params)
      → (new w gyr_ts acc_ts mag_ts given).number ≡ 4
      → (new w gyr_ts acc_ts mag_ts given).left ≡ fresh w
  -- "Intervals 0.01 .. what the constructor takes where settings are absent": they are within limits, and the fresh house filter is what they give
  pub house_taken : (w : Format) → new w (house_interval w) None None None ≡ told 0 (fresh w)
  -- "Construction never reaches 6", which is "a number the call would store is NaN or infinite": whatever is given, all numbers that it leaves are finite
  pub leaves_finite : (w : Format) (gyr_ts : Float) (acc_ts mag_ts : Option Float) (given : Option Params) → T (all_finite (new w gyr_ts acc_ts mag_ts given).left)
