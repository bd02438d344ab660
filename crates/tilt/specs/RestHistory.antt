-- Rest, told from history: what samples do to rest, with no look into the filter, over the format w.
use Rattle.std.specs.Prelude.{◌≡◌, refl, Bool, true, false, not, cond, ◌&&◌, ◌||◌, List, [], ◌∷◌, ◌++◌, replicate, Float}
use Rattle.std.specs.Float.{Format, binary64}
use Rattle.std.specs.Float.Ieee.{of_bits, add, lt, le}
use Rattle.floats.specs.Notation.{rounded, zero, half}
use Rattle.floats.specs.Decimals.{one_and_a_half}
use Rattle.floats.specs.Definitions.{magnitude}
use Rattle.algebra.specs.declared.vector.Vector.{Vector}
use Rattle.filters.specs.Channels.{fresh}
use Rattle.filters.specs.Coefficients.{filter_coeffs}
use Rattle.filters.specs.Banks.{filter_vec3}
use Rattle.filters.specs.declared.channel.Channel.{Channel}
use Rattle.tilt.specs.Scalars.{square, radians}
use Rattle.tilt.specs.Rest.{squared_deviation}
use Rattle.tilt.specs.declared.types.RestParams.{RestParams}

-- what a call does to rest
pub data Event : Type 0 where
  breaks : Event
  adds : Float → Event
  neither : Event

-- ---- The flag, from the events alone.
-- The times added since the last break, or since construction, after those of `ts`.
abbrev pub added_after : List Float → List Event → List Float
added_after ts [] = ts
added_after ts (breaks ∷ es) = added_after [] es
added_after ts (adds t ∷ es) = added_after (ts ++ t ∷ []) es
added_after ts (neither ∷ es) = added_after ts es

abbrev pub since_break : List Event → List Float
since_break es = added_after [] es

abbrev pub any : (Float → Bool) → List Float → Bool
any p [] = false
any p (x ∷ xs) = p x || any p xs

module _ (w : Format) where
  open rounded w use {◌⊕◌}

  abbrev pub sums_from : Float → List Float → List Float
  sums_from s [] = []
  sums_from s (t ∷ ts) = (s ⊕ t) ∷ sums_from (s ⊕ t) ts

  -- "adds `acc_ts`, rounded each time from 0": the sum that each addition brings
  abbrev pub sums : List Float → List Float
  sums ts = sums_from (zero w) ts

  -- "Rest is reported exactly when some such sample brought the sum to `rest_min_t` or beyond." So with `rest_min_t` 0 one sample is still needed.
  abbrev pub told_rest : Float → List Event → Bool
  told_rest min_t es = any (le min_t) (sums (since_break es))

-- ---- What the calls tell of the filter.
pub record Diary : Type 0 where
  -- those of the construction, with the switches as they were last set and the thresholds that were last accepted
  pub settings : RestParams
  -- the intervals of the construction
  pub gyr_ts : Float
  pub acc_ts : Float
  -- the samples that each rest filter has taken since it was last restarted, the newest first
  pub gyr_heard : List Vector
  pub acc_heard : List Vector

abbrev pub with_settings : Diary → RestParams → Diary
with_settings d p = record { settings = p; gyr_ts = d.gyr_ts; acc_ts = d.acc_ts; gyr_heard = d.gyr_heard; acc_heard = d.acc_heard }

abbrev pub with_heard : Diary → List Vector → List Vector → Diary
with_heard d gyrs accs = record { settings = d.settings; gyr_ts = d.gyr_ts; acc_ts = d.acc_ts; gyr_heard = gyrs; acc_heard = accs }

abbrev pub restarted : Diary → Diary
restarted d = with_heard d [] []

-- "while rest estimation or disturbance rejection is on"
abbrev pub watched : RestParams → Bool
watched p = p.rest_bias_est_enabled || p.mag_dist_rejection_enabled

abbrev pub note_gyr : Diary → Vector → Diary
note_gyr d gyr = cond (watched d.settings) (with_heard d (gyr ∷ d.gyr_heard) d.acc_heard) d

abbrev pub note_acc : Diary → Vector → Diary
note_acc d acc = cond d.settings.rest_bias_est_enabled (with_heard d d.gyr_heard (acc ∷ d.acc_heard)) d

module _ (w : Format) where
  -- what a rest filter remembers of the samples that it has taken, and what it makes of one more
  abbrev pub memory : Float → Float → List Vector → List Channel
  memory tau ts [] = replicate 3 fresh
  memory tau ts (v ∷ before) = (filter_vec3 w v tau ts (filter_coeffs tau ts) (memory tau ts before)).channels

  abbrev pub lowpassed : Float → Float → List Vector → Vector → Vector
  lowpassed tau ts before v = (filter_vec3 w v tau ts (filter_coeffs tau ts) (memory tau ts before)).y

  -- "Quiet is 000's test: squared deviation below the squared threshold and, for the gyro, no filtered component beyond the clip."
  -- 000 asks the opposite, `>=` the squared threshold and `>` the clip. A gyro sample is filtered at `gyr_ts`, whatever interval it came with.
  unfoldable pub gyr_quiet : Diary → Vector → Bool
  gyr_quiet d gyr =
      let p = d.settings in
      let lp = lowpassed p.rest_filter_tau d.gyr_ts d.gyr_heard gyr in
      let clip = radians w p.bias_clip in
      not (le (square w (radians w p.rest_th_gyr)) (squared_deviation w gyr lp))
      && not (lt clip (magnitude lp.0))
      && not (lt clip (magnitude lp.1))
      && not (lt clip (magnitude lp.2))

  unfoldable pub acc_quiet : Diary → Vector → Bool
  acc_quiet d acc =
      let p = d.settings in
      let lp = lowpassed p.rest_filter_tau d.acc_ts d.acc_heard acc in
      not (le (square w p.rest_th_acc) (squared_deviation w acc lp))

  -- Rest breaks at "an accepted gyro sample that is not quiet while rest estimation or disturbance rejection is on".
  abbrev pub gyr_event : Diary → Vector → Event
  gyr_event d gyr = cond (watched d.settings && not (gyr_quiet d gyr)) breaks neither

  -- Rest breaks at "an accepted accelerometer sample that is not quiet while rest estimation is on".
  -- "Each later quiet accelerometer sample, with rest estimation on, adds `acc_ts`."
  abbrev pub acc_event : Diary → Vector → Event
  acc_event d acc = cond d.settings.rest_bias_est_enabled (cond (acc_quiet d acc) (adds d.acc_ts) breaks) neither

-- ---- What it tells, by example: half seconds and `rest_min_t` 1.5.
abbrev half_second : Event
half_second = adds (half binary64)

abbrev least : Float
least = one_and_a_half binary64

third_reaches : told_rest binary64 least (half_second ∷ half_second ∷ half_second ∷ []) ≡ true
unfolding add le of_bits
third_reaches = refl

second_does_not : told_rest binary64 least (half_second ∷ half_second ∷ []) ≡ false
unfolding add le of_bits
second_does_not = refl

refused_between : told_rest binary64 least (half_second ∷ neither ∷ half_second ∷ neither ∷ half_second ∷ []) ≡ true
unfolding add le of_bits
refused_between = refl

broken_between : told_rest binary64 least (half_second ∷ half_second ∷ breaks ∷ half_second ∷ []) ≡ false
unfolding add le of_bits
broken_between = refl

broken_after : told_rest binary64 least (half_second ∷ half_second ∷ half_second ∷ breaks ∷ []) ≡ false
broken_after = refl

-- with `rest_min_t` 0
none_yet : told_rest binary64 (zero binary64) [] ≡ false
none_yet = refl

first_reaches : told_rest binary64 (zero binary64) (half_second ∷ []) ≡ true
unfolding add le of_bits
first_reaches = refl
