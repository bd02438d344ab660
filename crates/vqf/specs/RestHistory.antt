-- Rest, told from history, on the whole filter: the calls that reach the inertial half and what they were answered tell it, as
-- specs/RestHistory.antt of `inertial` says. Nothing magnetic is asked.
use Rattle.std.specs.Prelude.{◌≡◌, List, Option, Float}
use Rattle.std.specs.Float.{Format}
use Rattle.inertial.specs.Calls.{Answered, answered}
use Rattle.tilt.specs.RestHistory.{told_rest}
use Rattle.inertial.specs.RestHistory.{opened, written, events, Holds}
use Rattle.inertial.specs.declared.types.InertialParams.{InertialParams}
use Rattle.vqf.specs.Build.{interval_or, settings_or_house, new}
use Rattle.vqf.specs.Asked.{rest_detected}
use Rattle.vqf.specs.Calls.{Call, inertial_calls, run}
use Rattle.vqf.specs.Struck.{plain_answers}
use Rattle.vqf.specs.declared.types.VQF.{VQF}
use Rattle.vqf.specs.declared.types.Params.{Params}

module _ (w : Format) where
  -- the calls that reach the inertial half, an `update` as its gyro and its accelerometer call, each with its answer
  abbrev pub history : VQF → List Call → List Answered
  history f calls = answered (inertial_calls calls) (plain_answers w f calls)

  -- f came of these settings and intervals by calls that were answered so
  pub record RestTold (p : InertialParams) (gyr_ts acc_ts : Float) (heard : List Answered) (f : VQF) : Type 0 where
    -- each rest filter remembers the accepted samples since its last restart; settings, intervals and coefficients are those told
    pub holds : Holds w (written (opened p gyr_ts acc_ts) heard) f.inertial
    -- it reports rest exactly when its history tells rest
    pub reports : rest_detected f ≡ told_rest w p.rest.rest_min_t (events w (opened p gyr_ts acc_ts) heard)

  -- after any calls on a filter that was built and accepted
  abbrev pub RestFromHistory : Type 0
  RestFromHistory =
      (gyr_ts : Float) (acc_given mag_given : Option Float) (given : Option Params) (calls : List Call)
      → (new w gyr_ts acc_given mag_given given).number ≡ 0
      → let f = (new w gyr_ts acc_given mag_given given).left in
      RestTold (settings_or_house w given).inertial gyr_ts (interval_or acc_given gyr_ts) (history f calls) (run w f calls)
