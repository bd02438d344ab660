-- Each call keeps the bias within the clip: a step clips it last and stores it where it is finite, and the setter takes nothing beyond. No call changes the clip.
use Rattle.floats.specs.Prelude.{Bool, true, false, not, cond, ◌||◌, Bool_beq, T, Float, Result, Ok, Err, Format, neg, lt, le}
use lib.Ieee.Scale as scale
use Rattle.floats.specs.Notation.{zero}
use Rattle.floats.specs.Tests.{both, keeps}
use Rattle.floats.specs.Order.{nought, number, le_tr, le_rf, nlt→le, le→number, neg_le, Within}
use Rattle.floats.specs.Products.{finite_number}
use Rattle.floats.proofs.FromZero.{zero_level}
use Rattle.algebra.specs.Vectors.{origin, clipped, clip, finite}
use Rattle.algebra.specs.Quaternions.{times}
use Rattle.algebra.specs.Matrices.{invert}
use Rattle.algebra.specs.declared.vector.Vector.{Vector}
use Rattle.algebra.specs.declared.matrix.Matrix.{Matrix}
use Rattle.algebra.specs.declared.matrix.NoInverse.{NoInverse}
use Rattle.limits.specs.Limits.{all_within, threshold_taken}
use Rattle.limits.specs.declared.updated.Tried.{Tried}
use Rattle.tilt.specs.Scalars.{radians}
use Rattle.inertial.specs.Acc.{left}
use Rattle.inertial.specs.Kalman.{finite_bias, updated_bias, rotation, smoothed, measured, widened, innovation, by_inverse, estimated, bias_step}
use Rattle.inertial.specs.Setup.{taken, fresh_state, new}
use Rattle.inertial.specs.Setters as setters
use Rattle.inertial.specs.HowFar.{AllWithin}
use Rattle.inertial.specs.Answers.{acc_rest_of, inclination_of, bias_of}
use Rattle.inertial.specs.Types.{Bias, Inertial, InertialParams, Measurement, Smooth, Estimate}
use Rattle.inertial.proofs.Construction.{opened}
use Rattle.inertial.proofs.BiasLimit.{limit_within}
use Rattle.inertial.proofs.Invariants.{Invariant}

-- ---- what is clipped to ±c, and the origin
module _ (c : Float) (h : T (le nought c)) where
  below : T (le (neg c) nought)
  below = le_tr (neg c) (neg nought) nought (neg_le nought c h) (unfold le neg in tt)

  around : T (le (neg c) c)
  around = le_tr (neg c) nought c below h

  clipped_within : (x : Float) → T (scale.finite (clipped x (neg c) c)) → Within (clipped x (neg c) c) (neg c) c
  unfolding clipped
  clipped_within x = go (lt x (neg c)) (lt c x) (λ n. nlt→le x (neg c) n ends.0) (nlt→le c x ends.1)
    where
      ends : T (number (neg c)) × T (number c)
      ends = le→number (neg c) c around

      go : (low high : Bool) → (T (number x) → T (not low) → T (le (neg c) x)) → (T (number x) → T (not high) → T (le x c))
          → let y = cond low (neg c) (cond high c x) in T (scale.finite y) → Within y (neg c) c
      go true high p q t = (le_rf (neg c) ends.0, around)
      go false true p q t = (around, le_rf c ends.1)
      go false false p q t = let n = finite_number x t in (p n tt, q n tt)

  clip_within : (v : Vector) → T (finite (clip v (neg c) c)) → T (all_within c (clip v (neg c) c))
  unfolding finite clip all_within
  clip_within v t = let u = simp both at t in simp both ((clipped_within v.0 u.0.0, clipped_within v.1 u.0.1), clipped_within v.2 u.1)

  origin_within : (w : Format) → T (all_within c (origin w))
  unfolding all_within
  origin_within w =
      let one : Within (zero w) (neg c) c = (le_tr (neg c) nought (zero w) below (zero_level w).0, le_tr (zero w) nought c (zero_level w).1 h) in
      simp both ((one, one), one)

module _ (w : Format) where
  -- ---- the estimate, clipped to ±c
  module _ (c : Float) (h : T (le nought c)) where
    abbrev Clipped : Result Estimate NoInverse → Type 0
    Clipped (Err e) = Unit {0}
    Clipped (Ok n) = T (finite n.bias) → T (all_within c n.bias)

    by_inverse_clipped : (bias : Vector) (p : Matrix) (m : Measurement) (i : Result Matrix NoInverse) → Clipped (by_inverse w bias p m c i)
    by_inverse_clipped bias p m (Err e) = tt
    by_inverse_clipped bias p m (Ok i) = clip_within c h _

    estimated_clipped : (bias : Vector) (p : Matrix) (m : Measurement) → T (all_within c bias) → Clipped (estimated w bias p m c)
    unfolding estimated
    estimated_clipped bias p m k = keeps Clipped (le (zero w) m.w.0) _ _ (λ _. by_inverse_clipped bias p m (invert w (innovation w p m.r m.w))) (λ _. k)

    updated_clipped : (b : Bias) (s : Smooth) (k : Result Estimate NoInverse) → T (all_within c b.bias) → Clipped k
        → let t = left b (updated_bias s k) in T t.finite → T (all_within c t.value.bias)
    unfolding updated_bias finite_bias
    updated_clipped b s (Err e) k u t = k
    updated_clipped b s (Ok n) k u t = u (simp both at t).0.0.0

  -- ---- the calls
  abbrev pub Held : Inertial → Type 0
  Held f = T (threshold_taken w f.params.rest.bias_clip) × T (all_within (radians w f.params.rest.bias_clip) f.state.bias.bias)

  pub bias_within : (f : Inertial) → Held f → AllWithin (radians w f.params.rest.bias_clip) f.state.bias.bias
  unfolding all_within
  bias_within f h = let b = h.1 in let u = simp both at b in (u.0.0, u.0.1, u.1)

  new_held : (p : InertialParams) (gyr_ts acc_ts : Float) → T (taken w p gyr_ts acc_ts) → Held (new w p gyr_ts acc_ts)
  unfolding new fresh_state
  new_held p gyr_ts acc_ts t =
      let k : T (threshold_taken w p.rest.bias_clip) = simp both (opened w p gyr_ts acc_ts t).rest.clip in
      (k, origin_within _ (limit_within w _ k).0 w)

  module _ (f : Inertial) (h : Held f) where
    from : T (le nought (radians w f.params.rest.bias_clip))
    from = (limit_within w _ h.0).0

    bias_held : (acc : Vector) → T (bias_of w f acc).finite → T (all_within (radians w f.params.rest.bias_clip) (bias_of w f acc).value.bias)
    unfolding bias_step
    bias_held acc =
        let clip = radians w f.params.rest.bias_clip in
        let i = inclination_of w f acc in
        let b = f.state.bias in
        let s = smoothed w b (rotation w (times w i.inclination.acc_quat i.inclination.gyr_quat)) f.params.tau_acc f.coeffs.acc_ts f.coeffs.acc_lp in
        let m = measured w s f.params f.coeffs (acc_rest_of w f acc).value i.acc_earth b.bias in
        keeps (λ (t : Result (Tried Bias) NoInverse). T (left b t).finite → T (all_within clip (left b t).value.bias)) (f.params.bias.motion_bias_est_enabled || f.params.rest.rest_bias_est_enabled) _ _
        (λ _. updated_clipped clip from b s _ h.1 (estimated_clipped clip from b.bias (widened w b.bias_p f.coeffs.bias) m h.1))
        (λ _. h.1)

  pub held : Invariant w Held
  unfolding setters.adapted_bias setters.set_motion_bias_est_enabled setters.set_rest_bias_est_enabled setters.set_mag_dist_rejection_enabled setters.with_estimate setters.reset_state fresh_state
  held = record {
    built = new_held;
    gyr = λ f h v ts _. h;
    acc = λ f h v t. (h.0, bias_held f h v (simp both at t).1);
    tau_acc = λ f h tau. h;
    motion = λ f h on. keeps Held (Bool_beq f.params.bias.motion_bias_est_enabled on) f _ (λ _. h) h;
    rest = λ f h on. keeps Held (Bool_beq f.params.rest.rest_bias_est_enabled on) f _ (λ _. h) h;
    dist = λ f h on. h;
    thresholds = λ f h g a _. h;
    bias = λ f h v sigma t. (h.0, ((both (setters.bias_taken w f.params.rest.bias_clip v) (setters.sigma_or_none_taken w sigma)).0 t).0);
    reset = λ f h. (h.0, origin_within _ (from f h) w);
  }
