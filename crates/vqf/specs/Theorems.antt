-- What is proved of the filter, on one page. Each statement stands in the file that its `use` line names; proofs/Theorems.antt gives them all.
use Rattle.std.specs.Float.{Format}
use Rattle.numbers.specs.Root.{Meets, Only}
use Rattle.numbers.specs.Ranges.{Ranges}
use Rattle.numbers.specs.HalfAngles.{HalfAngles}
use Rattle.numbers.specs.Reduction.{Reduction}
use Rattle.algebra.specs.Inverses.{Inverses}
use Rattle.filters.specs.Bounds.{Bounds}
use Rattle.filters.specs.InStep.{StayInStep}
use Rattle.limits.specs.BySize.{BySize}
use Rattle.tilt.specs.HalfTurn.{HalfTurn}
use Rattle.inertial.specs.BiasLimit.{BiasLimit}
use Rattle.vqf.specs.Calls.{ByName}
use Rattle.vqf.specs.Answers.{Answers}
use Rattle.vqf.specs.Refused.{Refused}
use Rattle.vqf.specs.Construction.{Construction}
use Rattle.vqf.specs.StaysFinite.{StaysFinite}
use Rattle.vqf.specs.AnswersFinite.{AnswersStayFinite}
use Rattle.vqf.specs.HowFar.{HowFar}
use Rattle.vqf.specs.Turns.{Turns}
use Rattle.vqf.specs.Apart.{Apart}
use Rattle.vqf.specs.RestHistory.{RestFromHistory}
use Rattle.vqf.specs.Worked.{Worked}
use Rattle.vqf.specs.declared.types.VQF.{VQF}

pub record Theorems : Type 0 where
  -- ---- What the theorems speak of: each call as data is the definition that its function promises.
  pub by_name : (w : Format) (f : VQF) → ByName w f
  -- ---- Nothing breaks it.
  -- each number exactly when its row of the table says
  pub answers : (w : Format) → Answers w
  -- a refused call leaves the filter as it was, and an `update` is its three calls
  pub refused : (w : Format) → Refused w
  -- construction answers 0 or 4, leaves finite numbers, and a fresh house filter beside the 4
  pub construction : Construction
  -- whatever is given to the constructor and to the calls after it, every number that the filter holds is finite
  pub stays_finite : (w : Format) → StaysFinite w
  -- and so is every number that it answers when asked
  pub answers_finite : (w : Format) → AnswersStayFinite w
  -- heading within ±PI, bias within the clip, the gain used within 0 and 1, and how far a sample moves the heading; times and counts from 0 on; the sigma that is told
  pub how_far : HowFar
  -- a gyro sample that is taken turns within the domain of sine and cosine, and its turn is finite
  pub turns : Turns
  -- what lies within ±limit is no NaN and not in size beyond it
  pub by_size : BySize
  -- a bias is taken exactly where the gyro step would not find it beyond the clip, and no call changes the clip
  pub bias_limit : (w : Format) → BiasLimit w
  -- ---- Steel cannot touch the tilt.
  -- nothing magnetic reaches tilt, bias, covariance, rest flag or non-magnetic answers
  pub apart : (w : Format) → Apart w
  -- rest is reported exactly when the construction, the calls and their answers tell it
  pub rest_from_history : (w : Format) → RestFromHistory w
  -- ---- What points down comes up.
  -- next to a half turn the correction carries straight down to straight up, and what is near to it near to that
  pub half_turn : (w : Format) → HalfTurn w
  -- ---- The numbers below.
  -- the square root is the nearest value of its format, and nothing else is
  pub root_meets : (w : Format) → Meets w
  pub root_only : (w : Format) → Only w
  -- domains and ranges of sine, cosine, tangent, exponential and arc functions
  pub ranges : (w : Format) → Ranges w
  -- the largest half angle of a gyro step, and that it lies within the domain of sine and cosine
  pub half_angles : (w : Format) → HalfAngles w
  -- an angle of the domain loses at most 163 quarter turns, and their products with the first two parts of pi / 2 are not rounded
  pub reduction : Reduction
  -- the inverse answers "too small" and "not finite" exactly by its determinant, and divides by any other
  pub inverses : (w : Format) → Inverses w
  -- coefficients of every accepted filter are finite, gains lie within 0 and 1
  pub bounds : (w : Format) → Bounds w
  -- the channels of a bank average together and end together
  pub stay_in_step : StayInStep
  -- ---- The worked values that the prover computes.
  pub worked : Worked
