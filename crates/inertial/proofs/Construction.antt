-- Each setting lies within its limits, and each coefficient within bounds that are computed from them.
use Rattle.floats.specs.Prelude.{T, Float, nan, inf, fin, Format, binary32, binary64, of_bits, le, finite}
use Rattle.floats.specs.Notation.{zero, one}
use Rattle.floats.specs.Decimals.{hundred, tenth, ten_billionth}
use Rattle.floats.specs.Definitions.{larger}
use Rattle.floats.specs.Tests.{both}
use Rattle.floats.specs.Order.{number, le_tr, le→number, Within, between_finite}
use Rattle.floats.specs.Clamps.{larger_from_first, larger_from_second, larger_up_to}
use Rattle.floats.specs.Intervals.{Known, none, known, Expr, var, lit, mul', div', add', eval, bound, good, is_finite}
use Rattle.algebra.specs.Vectors as vectors
use Rattle.algebra.specs.Quaternions as quaternions
use Rattle.algebra.specs.Matrices as matrices
use Rattle.filters.specs.Bounds.{Interval, Constant}
use Rattle.filters.proofs.Bounds.{bounds, interval_finite, constant_finite}
use Rattle.filters.specs.Channels.{finite_channel}
use Rattle.filters.specs.Banks.{finite_channels}
use Rattle.limits.specs.Limits.{longest, sigma_limit, least_forgetting_time, least_threshold, threshold_limit}
use Rattle.tilt.specs.Gyr.{finite_gyr_rest}
use Rattle.inertial.specs.Kalman.{finite_bias}
use Rattle.tilt.specs.Acc.{finite_acc_rest, finite_inclination}
use Rattle.inertial.specs.Setup.{taken, bias_params_taken, bias_coefficients, setup, fresh_state, new}
use Rattle.tilt.specs.Setup.{rest_params_taken, fresh_rest, fresh_inclination}
use Rattle.inertial.specs.Construction.{NewFinite}
use Rattle.inertial.specs.Types.{InertialParams, BiasParams}
use Rattle.tilt.specs.declared.types.RestParams.{RestParams}
use Rattle.inertial.specs.AllFinite.{finite_rest_params, finite_bias_params, finite_params, finite_bias_coefficients, finite_coefficients, finite_state}
use Rattle.inertial.proofs.Parts.{whole, p0_finite}

-- ---- the fresh state
pub fresh_finite : (w : Format) (p0 : Float) → T (finite p0) → T (finite_state (fresh_state w p0))
unfolding finite_state finite_inclination finite_bias finite_gyr_rest finite_acc_rest finite_channels finite_channel fresh_state fresh_rest fresh_inclination vectors.finite quaternions.finite matrices.finite matrices.diagonal of_bits
fresh_finite w nan h = absurd h
fresh_finite w (inf s) h = absurd h
fresh_finite binary32 (fin s m e) h = tt
fresh_finite binary64 (fin s m e) h = tt

-- ---- what is taken, under the settings' names
module _ (w : Format) where
  abbrev pub SigmaTaken : Float → Type 0
  SigmaTaken s = Within s (zero w) (sigma_limit w)

  abbrev pub Threshold : Float → Type 0
  Threshold x = Within x (least_threshold w) (threshold_limit w)

  pub record BiasTaken (p : BiasParams) : Type 0 where
    pub init : SigmaTaken p.bias_sigma_init
    pub forgetting : Within p.bias_forgetting_time (least_forgetting_time w) (longest w)
    pub motion : SigmaTaken p.bias_sigma_motion
    pub vertical : Within p.bias_vertical_forgetting_factor (zero w) (one w)
    pub rest : SigmaTaken p.bias_sigma_rest

  pub record RestTaken (p : RestParams) (gyr_ts acc_ts : Float) : Type 0 where
    pub clip : Threshold p.bias_clip
    pub min_t : Within p.rest_min_t (zero w) (longest w)
    pub tau : Constant w p.rest_filter_tau (larger gyr_ts acc_ts)
    pub th_gyr : Threshold p.rest_th_gyr
    pub th_acc : Threshold p.rest_th_acc

  pub record Taken (p : InertialParams) (gyr_ts acc_ts : Float) : Type 0 where
    pub of_gyr : Interval w gyr_ts
    pub of_acc : Interval w acc_ts
    pub tau_acc : Constant w p.tau_acc acc_ts
    pub rest : RestTaken p.rest gyr_ts acc_ts
    pub bias : BiasTaken p.bias

  pub opened : (p : InertialParams) (gyr_ts acc_ts : Float) → T (taken w p gyr_ts acc_ts) → Taken p gyr_ts acc_ts
  unfolding taken rest_params_taken bias_params_taken
  opened p gyr_ts acc_ts t =
      let h = simp both at t in
      let r = h.0.1 in
      let b = h.1 in
      record {
        of_gyr = h.0.0.0.0;
        of_acc = h.0.0.0.1;
        tau_acc = h.0.0.1;
        rest = record { clip = r.0.0.0.0; min_t = r.0.0.0.1; tau = r.0.0.1; th_gyr = r.0.1; th_acc = r.1 };
        bias = record { init = b.0.0.0.0; forgetting = b.0.0.0.1; motion = b.0.0.1; vertical = b.0.1; rest = b.1 };
      }

-- ---- the numbers of the bias
abbrev square' : Expr → Expr
square' e = mul' e e

module _ (w : Format) where
  -- acc_ts is the first value, the forgetting time the second, a sigma the third, the factor the fourth
  abbrev v' : Expr
  v' = div' (mul' (square' (mul' (lit (tenth w)) (lit (hundred w)))) (var 0)) (var 1)

  abbrev p' : Expr
  p' = square' (mul' (var 2) (lit (hundred w)))

  abbrev w' : Expr
  w' = add' (div' (square' p') v') p'

  abbrev Values : Float → Float → Float → Float → Type 0
  Values ts t s g = Interval w ts × Within t (least_forgetting_time w) (longest w) × SigmaTaken w s × Within g (ten_billionth w) (one w)

  abbrev all_known : (ts t s g : Float) → Values ts t s g → Known
  all_known ts t s g v = known ts _ _ v.0 (known t _ _ v.1 (known s _ _ v.2 (known g _ _ v.3 none)))

  record Computed : Type 0 where
    factor : T (number (ten_billionth w)) × T (le (ten_billionth w) (one w))
    all_good : (ts t s g : Float) (v : Values ts t s g) → let good-at : Expr → Type 0 = λ e. T (good (bound w (all_known ts t s g v) e)) in
        good-at p' × good-at v' × good-at w' × good-at (div' w' (var 3))

computed : (w : Format) → Computed w
unfolding bound le of_bits
computed binary32 = record { factor = (tt, tt); all_good = λ ts t s g v. (tt, tt, tt, tt) }
computed binary64 = record { factor = (tt, tt); all_good = λ ts t s g v. (tt, tt, tt, tt) }

made_finite : (w : Format) (ts t s g : Float) (v : Values w ts t s g) → let finite-at : Expr → Type 0 = λ e. T (finite (eval w (all_known w ts t s g v) e)) in
    finite-at (p' w) × finite-at (v' w) × finite-at (w' w) × finite-at (div' (w' w) (var 3))
made_finite w ts t s g v =
    let k = all_known w ts t s g v in
    let c = (computed w).all_good ts t s g v in
    (is_finite w k (p' w) c.0, is_finite w k (v' w) c.1, is_finite w k (w' w) c.2, is_finite w k (div' (w' w) (var 3)) c.3)

module _ (w : Format) (p : InertialParams) (gyr_ts acc_ts : Float) (t : Taken w p gyr_ts acc_ts) where
  bias_finite : T (finite_bias_coefficients (bias_coefficients w p.bias acc_ts))
  unfolding bias_coefficients finite_bias_coefficients
  bias_finite =
      let c = (computed w).factor in
      let b = t.bias in
      let f = p.bias.bias_vertical_forgetting_factor in
      let g = ten_billionth w in
      let u : Within (larger f g) g (one w) = (larger_from_second f g (le→number (zero w) f b.vertical.0).1 c.0, larger_up_to f g (one w) b.vertical.1 c.1) in
      let init = made_finite w acc_ts _ _ _ (t.of_acc, b.forgetting, b.init, u) in
      let motion = made_finite w acc_ts _ _ _ (t.of_acc, b.forgetting, b.motion, u) in
      let rest = made_finite w acc_ts _ _ _ (t.of_acc, b.forgetting, b.rest, u) in
      simp both ((((init.0, init.1), motion.2), motion.3), rest.2)

  bias_params_finite : T (finite_bias_params p.bias)
  unfolding finite_bias_params of_bits
  bias_params_finite =
      let b = t.bias in
      let sigma : (s : Float) → SigmaTaken w s → T (finite s) = between_finite zero sigma_limit tt w in
      simp both
      ((((sigma _ b.init, between_finite least_forgetting_time longest tt w _ b.forgetting), sigma _ b.motion), between_finite zero one tt w _ b.vertical), sigma _ b.rest)

  -- a rest filter's tau reaches the larger interval, and so either
  of_rest_tau : Constant w p.rest.rest_filter_tau gyr_ts × Constant w p.rest.rest_filter_tau acc_ts
  of_rest_tau =
      let u = t.rest.tau in
      let n = (le→number _ gyr_ts t.of_gyr.0).1 in
      let m = (le→number _ acc_ts t.of_acc.0).1 in (
        (le_tr gyr_ts _ _ (larger_from_first gyr_ts acc_ts n m) u.0, u.1),
        (le_tr acc_ts _ _ (larger_from_second gyr_ts acc_ts n m) u.0, u.1),
      )

  rest_finite : T (finite_rest_params p.rest)
  unfolding finite_rest_params of_bits
  rest_finite =
      let r = t.rest in
      let threshold : (x : Float) → Threshold w x → T (finite x) = between_finite least_threshold threshold_limit tt w in
      simp both
      ((((threshold _ r.clip, between_finite zero longest tt w _ r.min_t), constant_finite w _ gyr_ts (interval_finite w gyr_ts t.of_gyr) of_rest_tau.0), threshold _ r.th_gyr), threshold _ r.th_acc)

  params_finite : T (finite_params p)
  unfolding finite_params
  params_finite = simp both ((constant_finite w _ acc_ts (interval_finite w acc_ts t.of_acc) t.tau_acc, rest_finite), bias_params_finite)

  coefficients_finite : T (finite_coefficients (setup w p gyr_ts acc_ts))
  unfolding finite_coefficients setup
  coefficients_finite =
      let g = t.of_gyr in
      let a = t.of_acc in
      let k = bounds w in
      simp both
      (((((interval_finite w gyr_ts g, interval_finite w acc_ts a), k.filter_coeffs_finite _ acc_ts a t.tau_acc), k.filter_coeffs_finite _ gyr_ts g of_rest_tau.0), k.filter_coeffs_finite _ acc_ts a of_rest_tau.1), bias_finite)

pub new_finite : (w : Format) → NewFinite w
unfolding new
new_finite w p gyr_ts acc_ts t =
    let k = opened w p gyr_ts acc_ts t in
    let c = coefficients_finite w p gyr_ts acc_ts k in
    whole _ (record { params = params_finite w p gyr_ts acc_ts k; coeffs = c; state = fresh_finite w _ (p0_finite _ c) })
