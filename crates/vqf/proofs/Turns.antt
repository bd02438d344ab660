-- Every filter that is reached has an inertial half that was reached.
use Rattle.inertial.specs.Turns.{HalfAngleServed, TurnFinite}
use Rattle.inertial.proofs.Turns as inertial
use Rattle.vqf.specs.Turns.{Turns}
use Rattle.vqf.proofs.Reached.{reached}

pub turns : Turns
turns = record {
  half_angle = λ w. reached w (HalfAngleServed w) ((inertial.turns).half_angle w);
  finite = λ w. reached w (TurnFinite w) ((inertial.turns).finite w);
}
