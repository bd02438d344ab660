-- The accelerometer step, over the format w: rest and inclination as in `tilt`, and the bias.
use Rattle.std.specs.Prelude.{Bool, true, cond, ◌&&◌, Result, Ok, Err, is_err}
use Rattle.std.specs.Result.{result_unwrap_or}
use Rattle.std.specs.Float.{Format}
use Rattle.algebra.specs.declared.vector.Vector.{Vector}
use Rattle.algebra.specs.declared.matrix.NoInverse.{NoInverse}
use Rattle.limits.specs.Answers.{Told, told}
use Rattle.limits.specs.Limits.{acc_taken, zero_sample}
use Rattle.limits.specs.declared.updated.Tried.{Tried}
use Rattle.tilt.specs.Acc.{acc_rest, inclined}
use Rattle.tilt.specs.declared.acc.TriedInclination.{TriedInclination}
use Rattle.tilt.specs.declared.types.Rest.{Rest}
use Rattle.inertial.specs.Told.{state_of, with_state, if_finite}
use Rattle.inertial.specs.Kalman.{bias_step}
use Rattle.inertial.specs.declared.types.Bias.{Bias}
use Rattle.inertial.specs.declared.types.Inertial.{Inertial}

-- no inverse, for either reason
abbrev pub singular : Result (Tried Bias) NoInverse → Bool
singular = is_err

-- the bias group that a step tried, or the one before where there is no inverse
abbrev pub left : Bias → Result (Tried Bias) NoInverse → Tried Bias
left b t = result_unwrap_or t (record { finite = true; value = b })

-- what the three parts of a step leave: 5 comes before 6
unfoldable pub acc_settled : Inertial → Tried Rest → TriedInclination → Result (Tried Bias) NoInverse → Told Inertial
acc_settled f r i (Err e) = told 5 f
acc_settled f r i (Ok b) = if_finite (r.finite && i.finite && b.finite) (with_state f (state_of i.inclination b.value r.value)) f

module _ (w : Format) where
  unfoldable pub acc_step : Inertial → Vector → Told Inertial
  acc_step f acc =
      let r = acc_rest w f.state.rest f.params.rest f.coeffs.acc_ts f.coeffs.rest_acc_lp acc in
      let i = inclined w f.state.inclination f.params.tau_acc f.coeffs.acc_ts f.coeffs.acc_lp acc in
      let b = bias_step w f.state.bias f.params f.coeffs i.inclination r.value i.acc_earth in
      acc_settled f r i b

  unfoldable pub update_acc : Inertial → Vector → Told Inertial
  update_acc f acc = cond (acc_taken w acc) (cond (zero_sample w acc) (told 1 f) (acc_step f acc)) (told 2 f)
