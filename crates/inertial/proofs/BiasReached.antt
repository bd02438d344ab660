-- Every filter that is reached keeps its bias within the clip, since each call does (BiasHeld).
use Rattle.floats.specs.Prelude.{List, T, Float, Format}
use Rattle.inertial.specs.Setup.{taken, new}
use Rattle.inertial.specs.Calls.{Call, run}
use Rattle.inertial.specs.Types.{InertialParams}
use Rattle.inertial.proofs.Invariants.{reached}
use Rattle.inertial.proofs.BiasHeld.{Held, held}

module _ (w : Format) where
  pub reached_held : (p : InertialParams) (gyr_ts acc_ts : Float) (cs : List Call) → T (taken w p gyr_ts acc_ts) → Held w (run w (new w p gyr_ts acc_ts) cs)
  reached_held = reached w (Held w) (held w)
