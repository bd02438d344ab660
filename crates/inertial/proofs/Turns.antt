-- The rate of a sample that is taken, less a bias within the clip, is at most `fastest`: a clip is at most a quarter turn a second. And what is turned is small.
use Rattle.floats.specs.Prelude.{T, Float, Format, binary32, binary64, of_bits, add, sub, div, neg, le}
use Rattle.floats.specs.Tests.{both}
use Rattle.floats.specs.Order.{Within, widen, neg_le}
use Rattle.floats.specs.Intervals.{none, known, var, sub', bound, inside, bounded}
use Rattle.numbers.specs.HalfAngles.{fastest}
use Rattle.numbers.proofs.HalfAngles.{Rate}
use Rattle.algebra.specs.declared.vector.Vector.{Vector}
use Rattle.limits.specs.Limits.{all_within, gyr_limit, gyr_taken}
use Rattle.tilt.specs.Scalars.{radians}
use Rattle.tilt.proofs.Turns.{Rates, half_within, predicted_finite}
use Rattle.inertial.specs.Setup.{new}
use Rattle.inertial.specs.Calls.{run}
use Rattle.inertial.specs.Turns.{rate, Turns}
use Rattle.inertial.specs.declared.types.Inertial.{Inertial}
use Rattle.inertial.proofs.BiasLimit.{quarter, limit_within}
use Rattle.inertial.proofs.BiasHeld.{Held}
use Rattle.inertial.proofs.BiasReached.{reached_held}
use Rattle.inertial.proofs.Sound.{reached_sound}

difference : (w : Format) (x b : Float) → Within x (neg (gyr_limit w)) (gyr_limit w) → Within b (neg (quarter w)) (quarter w) → Rate w (sub w x b)
unfolding bound inside add div neg le of_bits
difference binary32 x b p q = bounded binary32 (known x (neg (gyr_limit binary32)) (gyr_limit binary32) p (known b (neg (quarter binary32)) (quarter binary32) q none)) (sub' (var 0) (var 1)) (neg (fastest binary32)) (fastest binary32) tt
difference binary64 x b p q = bounded binary64 (known x (neg (gyr_limit binary64)) (gyr_limit binary64) p (known b (neg (quarter binary64)) (quarter binary64) q none)) (sub' (var 0) (var 1)) (neg (fastest binary64)) (fastest binary64) tt

rates : (w : Format) (f : Inertial) (gyr : Vector) → Held w f → T (gyr_taken w gyr) → Rates w (rate w f gyr)
unfolding all_within
rates w f gyr h t =
    let limit = gyr_limit w in
    let clip = radians w f.params.rest.bias_clip in
    let c = limit_within w _ h.0 in
    let one : (x b : Float) → Within x (neg limit) limit → Within b (neg clip) clip → Rate w (sub w x b)
    = λ x b p q. difference w x b p (widen b (neg clip) clip (neg (quarter w)) (quarter w) (neg_le clip (quarter w) c.1) c.1 q) in
    let p = simp both at t in
    let q = simp both at h.1 in
    (one _ _ p.0.0 q.0.0, one _ _ p.0.1 q.0.1, one _ _ p.1 q.1)

pub turns : Turns
turns = record {
  half_angle = λ w p gyr_ts acc_ts calls t gyr ts g i.
      let f = run w (new w p gyr_ts acc_ts) calls in
      half_within w (rate w f gyr) ts (rates w f gyr (reached_held w p gyr_ts acc_ts calls t) g) i;
  finite = λ w p gyr_ts acc_ts calls t gyr ts g i.
      let f = run w (new w p gyr_ts acc_ts) calls in
      predicted_finite w _ f.state.bias.bias gyr ts (reached_sound w p gyr_ts acc_ts calls t).tilt.0 (rates w f gyr (reached_held w p gyr_ts acc_ts calls t) g) i;
}
