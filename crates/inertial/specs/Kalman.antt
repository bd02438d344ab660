-- The bias estimate of the accelerometer step, over the format w.
use Rattle.std.specs.Prelude.{Bool, true, cond, ◌&&◌, ◌||◌, List, [], ◌∷◌, get_or, Float, Result, Ok, Err}
use Rattle.std.specs.Float.{nan, Format}
use Rattle.std.specs.Float.Ieee.{neg, lt, le}
use Rattle.floats.specs.Notation.{rounded, zero, one, two}
use Rattle.algebra.specs.Vectors.{vector, both, clip, finite, origin}
use Rattle.algebra.specs.Quaternions as quaternions
use Rattle.algebra.specs.Matrices.{rows, minus, times, transpose, invert, flatten, unflatten, diagonal}
use Rattle.algebra.specs.Matrices as matrices
use Rattle.algebra.specs.declared.vector.Vector.{Vector}
use Rattle.algebra.specs.declared.quaternion.Quaternion.{Quaternion}
use Rattle.algebra.specs.declared.matrix.Matrix.{Matrix}
use Rattle.algebra.specs.declared.matrix.NoInverse.{NoInverse}
use Rattle.filters.specs.Banks.{filter_vec, finite_channels}
use Rattle.filters.specs.declared.coeffs.Coeffs.{Coeffs}
use Rattle.limits.specs.declared.updated.Tried.{Tried}
use Rattle.tilt.specs.Scalars.{square, radians}
use Rattle.inertial.specs.declared.types.Bias.{Bias}
use Rattle.inertial.specs.declared.types.BiasCoefficients.{BiasCoefficients}
use Rattle.tilt.specs.declared.types.Inclination.{Inclination}
use Rattle.inertial.specs.declared.types.InertialParams.{InertialParams}
use Rattle.inertial.specs.declared.types.InertialCoefficients.{InertialCoefficients}
use Rattle.tilt.specs.declared.types.Rest.{Rest}
use Rattle.inertial.specs.declared.kalman.Smooth.{Smooth}
use Rattle.inertial.specs.declared.kalman.Measurement.{Measurement}
use Rattle.inertial.specs.declared.kalman.Estimate.{Estimate}

unfoldable pub finite_bias : Bias → Bool
finite_bias b =
    finite b.bias
    && matrices.finite b.bias_p
    && finite_channels 9 b.motion_bias_est_rlp_state
    && finite_channels 2 b.motion_bias_est_bias_lp_state

abbrev pub with_diagonal : Matrix → Vector → Matrix
with_diagonal m d =
    record {
      m00 = d.0;
      m01 = m.m01;
      m02 = m.m02;
      m10 = m.m10;
      m11 = d.1;
      m12 = m.m12;
      m20 = m.m20;
      m21 = m.m21;
      m22 = d.2;
    }

-- the group after the filters and the estimate
unfoldable pub updated_bias : Smooth → Result Estimate NoInverse → Result (Tried Bias) NoInverse
updated_bias s (Err e) = Err e
updated_bias s (Ok n) =
    let next : Bias = record {
      bias = n.bias;
      bias_p = n.bias_p;
      motion_bias_est_rlp_state = s.rlp_state;
      motion_bias_est_bias_lp_state = s.bias_lp_state;
    } in
    Ok (record { finite = finite_bias next; value = next })

module _ (w : Format) where
  open rounded w use {◌⊕◌, ◌⊖◌, ◌⊗◌, ◌⊘◌}

  unfoldable pub rotation : Quaternion → Matrix
  rotation q =
      rows
      (vector
      (one w ⊖ two w ⊗ square w q.2 ⊖ two w ⊗ square w q.3)
      (two w ⊗ (q.2 ⊗ q.1 ⊖ q.0 ⊗ q.3))
      (two w ⊗ (q.0 ⊗ q.2 ⊕ q.3 ⊗ q.1)))
      (vector
      (two w ⊗ (q.0 ⊗ q.3 ⊕ q.2 ⊗ q.1))
      (one w ⊖ two w ⊗ square w q.1 ⊖ two w ⊗ square w q.3)
      (two w ⊗ (q.2 ⊗ q.3 ⊖ q.1 ⊗ q.0)))
      (vector
      (two w ⊗ (q.3 ⊗ q.1 ⊖ q.0 ⊗ q.2))
      (two w ⊗ (q.0 ⊗ q.1 ⊕ q.3 ⊗ q.2))
      (one w ⊖ two w ⊗ square w q.1 ⊖ two w ⊗ square w q.2))

  unfoldable pub smoothed : Bias → Matrix → Float → Float → Coeffs → Smooth
  smoothed b r tau ts k =
      let v = b.bias in
      let x = r.m00 ⊗ v.0 ⊕ r.m01 ⊗ v.1 ⊕ r.m02 ⊗ v.2 in
      let y = r.m10 ⊗ v.0 ⊕ r.m11 ⊗ v.1 ⊕ r.m12 ⊗ v.2 in
      let f = filter_vec w 9 (flatten r) tau ts k b.motion_bias_est_rlp_state in
      let g = filter_vec w 2 (x ∷ y ∷ []) tau ts k b.motion_bias_est_bias_lp_state in
      record { r = unflatten f.y; bias_lp = g.y; rlp_state = f.channels; bias_lp_state = g.channels }

  unfoldable pub at_rest : Vector → Vector → Float → Measurement
  at_rest gyr_lp bias v = record { e = both ◌⊖◌ gyr_lp bias; w = vector v v v; r = diagonal w (one w) }

  unfoldable pub in_motion : Matrix → List Float → Vector → Float → Vector → BiasCoefficients → Measurement
  in_motion r bias_lp a ts bias c =
      record {
        e = vector
            (neg a.1 ⊘ ts ⊕ get_or bias_lp 0 nan ⊖ r.m00 ⊗ bias.0 ⊖ r.m01 ⊗ bias.1 ⊖ r.m02 ⊗ bias.2)
            (a.0 ⊘ ts ⊕ get_or bias_lp 1 nan ⊖ r.m10 ⊗ bias.0 ⊖ r.m11 ⊗ bias.1 ⊖ r.m12 ⊗ bias.2)
            (neg r.m20 ⊗ bias.0 ⊖ r.m21 ⊗ bias.1 ⊖ r.m22 ⊗ bias.2);
        w = vector c.bias_motion_w c.bias_motion_w c.bias_vertical_w;
        r = r;
      }

  unfoldable pub unmeasured : Matrix → Measurement
  unmeasured r = record { e = origin w; w = vector (neg (one w)) (neg (one w)) (neg (one w)); r = r }

  unfoldable pub measured : Smooth → InertialParams → InertialCoefficients → Rest → Vector → Vector → Measurement
  measured s p k rest acc_earth bias =
      cond (rest.rest_detected && p.rest.rest_bias_est_enabled)
      (at_rest rest.rest_last_gyr_lp bias k.bias.bias_rest_w)
      (cond p.bias.motion_bias_est_enabled
      (in_motion s.r s.bias_lp acc_earth k.acc_ts bias k.bias)
      (unmeasured s.r))

  -- step 1: P = P + V
  unfoldable pub raised : Float → BiasCoefficients → Float
  raised x c = cond (lt x c.bias_p0) (x ⊕ c.bias_v) x

  unfoldable pub widened : Matrix → BiasCoefficients → Matrix
  widened p c = with_diagonal p (vector (raised p.m00 c) (raised p.m11 c) (raised p.m22 c))

  -- step 2: K = P R^T inv(W + R P R^T)
  unfoldable pub innovation : Matrix → Matrix → Vector → Matrix
  innovation p r v =
      let k = times w r (times w p (transpose r)) in
      with_diagonal k (vector (k.m00 ⊕ v.0) (k.m11 ⊕ v.1) (k.m22 ⊕ v.2))

  unfoldable pub gain : Matrix → Matrix → Matrix → Matrix
  gain p r inverse = times w p (times w (transpose r) inverse)

  -- step 3: bias = bias + K e
  unfoldable pub shifted : Vector → Matrix → Vector → Vector
  shifted b k e =
      vector
      (b.0 ⊕ (k.m00 ⊗ e.0 ⊕ k.m01 ⊗ e.1 ⊕ k.m02 ⊗ e.2))
      (b.1 ⊕ (k.m10 ⊗ e.0 ⊕ k.m11 ⊗ e.1 ⊕ k.m12 ⊗ e.2))
      (b.2 ⊕ (k.m20 ⊗ e.0 ⊕ k.m21 ⊗ e.1 ⊕ k.m22 ⊗ e.2))

  -- step 4: P = P - K R P
  unfoldable pub shrunk : Matrix → Matrix → Matrix → Matrix
  shrunk p k r = minus w p (times w (times w k r) p)

  abbrev pub by_inverse : Vector → Matrix → Measurement → Float → Result Matrix NoInverse → Result Estimate NoInverse
  by_inverse bias p m c (Err e) = Err e
  by_inverse bias p m c (Ok i) =
      let k = gain p m.r i in
      Ok (record { bias = clip (shifted bias k (clip m.e (neg c) c)) (neg c) c; bias_p = shrunk p k m.r })

  unfoldable pub estimated : Vector → Matrix → Measurement → Float → Result Estimate NoInverse
  estimated bias p m c =
      cond (le (zero w) m.w.0)
      (by_inverse bias p m c (invert w (innovation p m.r m.w)))
      (Ok (record { bias = bias; bias_p = p }))

  unfoldable pub bias_step : Bias → InertialParams → InertialCoefficients → Inclination → Rest → Vector → Result (Tried Bias) NoInverse
  bias_step b p k i rest acc_earth =
      let r = rotation (quaternions.times w i.acc_quat i.gyr_quat) in
      let s = smoothed b r p.tau_acc k.acc_ts k.acc_lp in
      let m = measured s p k rest acc_earth b.bias in
      cond (p.bias.motion_bias_est_enabled || p.rest.rest_bias_est_enabled)
      (updated_bias s (estimated b.bias (widened b.bias_p k.bias) m (radians w p.rest.bias_clip)))
      (Ok (record { finite = true; value = b }))
