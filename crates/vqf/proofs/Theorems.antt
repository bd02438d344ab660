-- Each theorem by its own proof.
use Rattle.numbers.proofs.RootLaws.{root_meets, root_only}
use Rattle.numbers.proofs.Ranges.{ranges}
use Rattle.numbers.proofs.HalfAngles.{half_angles}
use Rattle.numbers.proofs.Reduction.{reduction}
use Rattle.algebra.proofs.Inverses.{inverses}
use Rattle.filters.proofs.Bounds.{bounds}
use Rattle.filters.proofs.InStep.{stay_in_step}
use Rattle.limits.proofs.BySize.{by_size}
use Rattle.tilt.proofs.HalfTurn.{half_turn}
use Rattle.inertial.proofs.BiasLimit.{bias_limit}
use Rattle.vqf.specs.Theorems.{Theorems}
use Rattle.vqf.proofs.ByName.{by_name}
use Rattle.vqf.proofs.ByTable.{answers}
use Rattle.vqf.proofs.Refused.{refused}
use Rattle.vqf.proofs.Construction.{construction}
use Rattle.vqf.proofs.StaysFinite.{stays_finite}
use Rattle.vqf.proofs.AnswersFinite.{answers_finite}
use Rattle.vqf.proofs.HowFar.{how_far}
use Rattle.vqf.proofs.Turns.{turns}
use Rattle.vqf.proofs.Apart.{apart}
use Rattle.vqf.proofs.RestHistory.{rest_from_history}
use Rattle.vqf.proofs.Worked.{worked}

pub theorems : Theorems
theorems = record {
  by_name = by_name;
  answers = answers;
  refused = refused;
  construction = construction;
  stays_finite = stays_finite;
  answers_finite = answers_finite;
  how_far = how_far;
  turns = turns;
  by_size = by_size;
  bias_limit = bias_limit;
  apart = apart;
  rest_from_history = rest_from_history;
  half_turn = half_turn;
  root_meets = root_meets;
  root_only = root_only;
  ranges = ranges;
  half_angles = half_angles;
  reduction = reduction;
  inverses = inverses;
  bounds = bounds;
  stay_in_step = stay_in_step;
  worked = worked;
}
