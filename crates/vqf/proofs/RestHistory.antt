-- The inertial half of the run is the run of the inertial half (`inertial_run`), which tells rest from its history (`rest_from_history` of `inertial`).
use Rattle.floats.specs.Prelude.{◌≡◌, List, Float, Format}
use Rattle.inertial.specs.Setup as inertial
use Rattle.inertial.specs.RestHistory.{ToldByHistory}
use Rattle.inertial.proofs.RestHistory as of_inertial
use Rattle.inertial.specs.declared.types.InertialParams.{InertialParams}
use Rattle.vqf.specs.Build.{interval_or, settings_or_house}
use Rattle.vqf.specs.Calls.{Call, inertial_calls, run}
use Rattle.vqf.specs.RestHistory.{history, RestFromHistory}
use Rattle.vqf.specs.declared.types.VQF.{VQF}
use Rattle.vqf.proofs.InertialRun.{built_half, inertial_run}

module _ (w : Format) where
  told_half : (p : InertialParams) (gyr_ts acc_ts : Float) (f : VQF) (calls : List Call) → f.inertial ≡ inertial.new w p gyr_ts acc_ts
      → ToldByHistory w p gyr_ts acc_ts (history w f calls) (run w f calls).inertial
  told_half p gyr_ts acc_ts f calls e =
      let s = inertial_run w f calls in
      let t = of_inertial.rest_from_history w p gyr_ts acc_ts (inertial_calls calls) in
      rw (s.numbers, s.half, e) t

  pub rest_from_history : RestFromHistory w
  rest_from_history gyr_ts acc_given mag_given given calls accepted =
      let t = told_half (settings_or_house w given).inertial gyr_ts (interval_or acc_given gyr_ts) _ calls (built_half w gyr_ts acc_given mag_given given accepted) in
      record { holds = t.holds; reports = t.flag }
