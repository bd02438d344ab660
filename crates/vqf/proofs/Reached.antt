-- What holds of the inertial half after an accepted construction and any calls on it holds of that of every filter that is reached: a refused construction leaves the
-- house filter, and of the calls the half gets its own.
use Rattle.floats.specs.Prelude.{sym, subst, List, T, Float, Format, Option}
use Rattle.floats.specs.Tests.{both, keeps}
use Rattle.limits.specs.Answers.{Told}
use Rattle.inertial.specs.Setup as setup
use Rattle.inertial.specs.Calls as inertial
use Rattle.inertial.specs.declared.types.Inertial.{Inertial}
use Rattle.inertial.specs.declared.types.InertialParams.{InertialParams}
use Rattle.vqf.specs.Build.{house, interval_or, settings_or_house, taken, built, fresh, new}
use Rattle.vqf.specs.Calls.{Call, inertial_calls, run}
use Rattle.vqf.specs.Construction.{all_taken}
use Rattle.vqf.specs.Types.{VQF, Params}
use Rattle.vqf.proofs.Construction.{house_within}
use Rattle.vqf.proofs.InertialRun.{inertial_run}

module _ (w : Format) (P : Inertial → Type 0)
    (always : (p : InertialParams) (gyr_ts acc_ts : Float) (calls : List inertial.Call) → T (setup.taken w p gyr_ts acc_ts) → P (inertial.run w (setup.new w p gyr_ts acc_ts) calls))
  where
    from_built : (p : Params) (gyr_ts acc_ts mag_ts : Float) (calls : List Call) → T (taken w p gyr_ts acc_ts mag_ts) → P (run w (built w p gyr_ts acc_ts mag_ts) calls).inertial
    unfolding taken built
    from_built p gyr_ts acc_ts mag_ts calls t =
        subst P (sym (inertial_run w (built w p gyr_ts acc_ts mag_ts) calls).half) (always p.inertial gyr_ts acc_ts (inertial_calls calls) (simp both at t).0)

    pub reached : (gyr_ts : Float) (acc_ts mag_ts : Option Float) (given : Option Params) (calls : List Call) → P (run w (new w gyr_ts acc_ts mag_ts given).left calls).inertial
    unfolding new fresh
    reached gyr_ts acc_ts mag_ts given calls =
        keeps (λ (t : Told VQF). P (run w t.left calls).inertial) (all_taken w gyr_ts acc_ts mag_ts given) _ _
        (from_built (settings_or_house w given) gyr_ts (interval_or acc_ts gyr_ts) (interval_or mag_ts gyr_ts) calls)
        (from_built (house w) _ _ _ calls (house_within w))
