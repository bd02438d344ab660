-- No time and no count of the inertial half is below 0: rest and inclination as in `tilt`, and the filters of the bias count from 0.
use Rattle.floats.specs.Prelude.{◌||◌, Bool_beq, List, T, Float, Result, Ok, Err, Format, binary32, binary64, of_bits, le}
use Rattle.floats.specs.Notation.{zero}
use Rattle.floats.specs.Tests.{keeps}
use Rattle.floats.specs.Order.{le_tr}
use Rattle.algebra.specs.declared.matrix.NoInverse.{NoInverse}
use Rattle.algebra.specs.declared.vector.Vector.{Vector}
use Rattle.filters.specs.Counts.{all_from_zero}
use Rattle.filters.proofs.Counts.{channels_from_zero, adapted_from_zero, fresh_from_zero}
use Rattle.limits.specs.Limits.{shortest_interval}
use Rattle.limits.specs.declared.updated.Tried.{Tried}
use Rattle.tilt.proofs.CountsHeld.{InclinationHeld, RestHeld, rest_fresh, inclination_fresh, gyr_rest_held, acc_rest_held, inclined_held, adapted_inclination_held}
use Rattle.inertial.specs.Acc.{left}
use Rattle.inertial.specs.Kalman.{updated_bias, smoothed, bias_step}
use Rattle.inertial.specs.Setup.{taken, fresh_state, setup, new}
use Rattle.inertial.specs.Setters as setters
use Rattle.inertial.specs.Calls.{Call, run}
use Rattle.inertial.specs.Answers.{bias_of}
use Rattle.inertial.specs.Types.{Bias, Inertial, InertialParams, Estimate, Smooth}
use Rattle.inertial.proofs.Construction.{opened}
use Rattle.inertial.proofs.Invariants.{Invariant, reached}

least : (w : Format) → T (le (zero w) (shortest_interval w))
unfolding le of_bits
least binary32 = tt
least binary64 = tt

abbrev BiasHeld : Bias → Type 0
BiasHeld b = T (all_from_zero 9 b.motion_bias_est_rlp_state) × T (all_from_zero 2 b.motion_bias_est_bias_lp_state)

updated_held : (b : Bias) (s : Smooth) (k : Result Estimate NoInverse) → T (all_from_zero 9 s.rlp_state) × T (all_from_zero 2 s.bias_lp_state) → BiasHeld b → BiasHeld (left b (updated_bias s k)).value
unfolding updated_bias
updated_held b s (Err e) k h = h
updated_held b s (Ok n) k h = k

module _ (w : Format) where
  abbrev pub CountsHeld : Inertial → Type 0
  CountsHeld f = T (le (zero w) f.coeffs.acc_ts) × InclinationHeld f.state.inclination × BiasHeld f.state.bias × RestHeld w f.state.rest

  new_held : (p : InertialParams) (gyr_ts acc_ts : Float) → T (taken w p gyr_ts acc_ts) → CountsHeld (new w p gyr_ts acc_ts)
  unfolding new setup fresh_state
  new_held p gyr_ts acc_ts t =
      let from = le_tr (zero w) (shortest_interval w) acc_ts (least w) (opened w p gyr_ts acc_ts t).of_acc.0 in
      (from, inclination_fresh w, (fresh_from_zero 9, fresh_from_zero 2), rest_fresh w)

  module _ (f : Inertial) (h : CountsHeld f) where
    bias_held : (v : Vector) → BiasHeld (bias_of w f v).value
    unfolding bias_step smoothed
    bias_held v =
        let b = f.state.bias in
        let tau = f.params.tau_acc in
        let ts = f.coeffs.acc_ts in
        let k = f.coeffs.acc_lp in
        keeps (λ (t : Result (Tried Bias) NoInverse). BiasHeld (left b t).value) (f.params.bias.motion_bias_est_enabled || f.params.rest.rest_bias_est_enabled) _ _
        (λ _. updated_held b _ _ (channels_from_zero w 9 _ tau ts k b.motion_bias_est_rlp_state h.2.0, channels_from_zero w 2 _ tau ts k b.motion_bias_est_bias_lp_state h.2.1) h.2)
        h.2

  held : Invariant w CountsHeld
  unfolding setters.adapted_bias setters.set_motion_bias_est_enabled setters.set_rest_bias_est_enabled setters.set_mag_dist_rejection_enabled setters.with_estimate setters.reset_state fresh_state
  held = record {
    built = new_held;
    gyr = λ f h v ts _. (h.0, h.1, h.2, gyr_rest_held w _ _ _ _ _ h.3);
    acc = λ f h v _. (h.0, inclined_held w _ _ _ _ _ h.1, bias_held f h v, acc_rest_held w _ _ _ _ _ h.3 h.0);
    tau_acc = λ f h tau. (h.0, adapted_inclination_held _ _ _ h.1, (adapted_from_zero 9 _ _ _ _ h.2.0, adapted_from_zero 2 _ _ _ _ h.2.1), h.3);
    motion = λ f h on. keeps CountsHeld (Bool_beq f.params.bias.motion_bias_est_enabled on) f _ (λ _. h) (h.0, h.1, (fresh_from_zero 9, fresh_from_zero 2), h.3);
    rest = λ f h on. keeps CountsHeld (Bool_beq f.params.rest.rest_bias_est_enabled on) f _ (λ _. h) (h.0, h.1, h.2, rest_fresh w);
    dist = λ f h on. h;
    thresholds = λ f h g a _. h;
    bias = λ f h v sigma _. h;
    reset = λ f h. (h.0, inclination_fresh w, (fresh_from_zero 9, fresh_from_zero 2), rest_fresh w);
  }

  pub reached_counts : (p : InertialParams) (gyr_ts acc_ts : Float) (cs : List Call) → T (taken w p gyr_ts acc_ts) → CountsHeld (run w (new w p gyr_ts acc_ts) cs)
  reached_counts = reached w CountsHeld held
