-- Each setting lies within its limits, and each coefficient within bounds that are computed from them.
use Rattle.std.specs.Prelude.{Option}
use Rattle.floats.specs.Prelude.{◌⊎◌, inl, inr, T, Float, Format, binary32, binary64, of_bits, neg, lt, finite}
use Rattle.floats.specs.Notation.{zero, one}
use Rattle.floats.specs.Tests.{both, either, is_true, keeps}
use Rattle.floats.specs.Order.{lt→nle, Within, within_finite, each_finite, between_finite}
use Rattle.filters.specs.Bounds.{Interval, GainConstant}
use Rattle.filters.proofs.Bounds.{bounds, interval_finite}
use Rattle.filters.specs.Channels.{finite_channel}
use Rattle.filters.specs.declared.coeffs.Coeffs.{Coeffs}
use Rattle.filters.specs.Banks.{finite_channels}
use Rattle.limits.specs.Limits.{longest, least_tau, within, tau_or_off_taken, norm_threshold_limit, dip_threshold_limit, min_gyr_limit, rejection_factor_limit}
use Rattle.magnetic.specs.Fields.{finite_field}
use Rattle.magnetic.specs.Headings.{finite_heading}
use Rattle.magnetic.specs.Setup.{taken, taus_taken, thresholds_taken, times_taken, smoothing_of, setup, restarted_field, fresh_state, new}
use Rattle.magnetic.specs.Construction.{NewFinite}
use Rattle.magnetic.specs.Types.{MagneticParams, NormDip}
use Rattle.magnetic.specs.AllFinite.{finite_params, finite_smoothing, finite_coefficients}
use Rattle.magnetic.proofs.Parts.{whole}

-- ---- a fresh start
pub restarted_field_finite : (w : Format) (p : MagneticParams) (x : NormDip) → T (finite p.mag_max_rejection_time) → T (finite x.0) → T (finite x.1)
    → T (finite_field (restarted_field w p x))
unfolding finite_field finite_channels finite_channel restarted_field neg of_bits
restarted_field_finite binary32 p x t a b = rw (is_true (finite p.mag_max_rejection_time) t, is_true (finite x.0) a, is_true (finite x.1) b) tt
restarted_field_finite binary64 p x t a b = rw (is_true (finite p.mag_max_rejection_time) t, is_true (finite x.0) a, is_true (finite x.1) b) tt

module _ (w : Format) where
  pub fresh_finite : (p : MagneticParams) → T (finite p.mag_max_rejection_time) → T (finite_heading (fresh_state w p).heading) × T (finite_field (fresh_state w p).field)
  unfolding fresh_state finite_heading of_bits
  fresh_finite p t = let z = each_finite zero tt w in (simp both (((z, each_finite one tt w), z), z), restarted_field_finite w p _ t z z)

  -- ---- off, or from least up
  abbrev OrOff : Float → Float → Type 0
  OrOff least tau = Within tau (neg (longest w)) (zero w) ⊎ Within tau least (longest w)

  pub tau_or_off : (least tau : Float) → T (tau_or_off_taken w least tau) → OrOff least tau
  unfolding tau_or_off_taken
  tau_or_off least tau t = elim (either (within (neg (longest w)) (zero w) tau) (within least (longest w) tau) t) [ inl h ↦ inl (simp both at h) | inr h ↦ inr (simp both at h) ]

  pub either_finite : (least tau : Float) → T (finite least) → OrOff least tau → T (finite tau)
  unfolding neg of_bits
  either_finite least tau f (inl v) = between_finite (λ w. neg (longest w)) zero tt w tau v
  either_finite least tau f (inr v) = within_finite tau least (longest w) f (each_finite longest tt w) v

  -- a tau above 0 is no `off`
  smoothing_finite : (tau ts : Float) → Interval w ts → OrOff ts tau → T (finite_smoothing (smoothing_of w tau ts))
  unfolding smoothing_of finite_smoothing
  smoothing_finite tau ts v u =
      keeps (λ (s : Option Coeffs). T (finite_smoothing s)) (lt (zero w) tau) _ _
      (λ t. elim u [ inl off ↦ absurd (lt→nle (zero w) tau t off.1) | inr on ↦ (bounds w).filter_coeffs_finite tau ts v on ]) tt

  -- ---- what is taken, under the settings' names
  abbrev UpTo : (Format → Float) → Float → Type 0
  UpTo limit x = Within x (zero w) (limit w)

  pub record Taken (p : MagneticParams) (ts : Float) : Type 0 where
    pub interval : Interval w ts
    pub tau_mag : GainConstant w p.tau_mag
    pub current_tau : OrOff ts p.mag_current_tau
    pub ref_tau : GainConstant w p.mag_ref_tau
    pub norm_th : UpTo norm_threshold_limit p.mag_norm_th
    pub dip_th : UpTo dip_threshold_limit p.mag_dip_th
    pub min_gyr : UpTo min_gyr_limit p.mag_new_min_gyr
    pub factor : Within p.mag_rejection_factor (one w) (rejection_factor_limit w)
    pub new_time : UpTo longest p.mag_new_time
    pub first_time : UpTo longest p.mag_new_first_time
    pub undisturbed : UpTo longest p.mag_min_undisturbed_time
    pub rejection : UpTo longest p.mag_max_rejection_time

  pub opened : (p : MagneticParams) (ts : Float) → T (taken w p ts) → Taken p ts
  unfolding taken taus_taken thresholds_taken times_taken
  opened p ts t =
      let h = simp both at t in
      let tau = h.0.0.1 in
      let th = h.0.1 in
      let d = h.1 in
      record {
        interval = h.0.0.0;
        tau_mag = tau_or_off (least_tau w) _ tau.0.0;
        current_tau = tau_or_off ts _ tau.0.1;
        ref_tau = tau_or_off (least_tau w) _ tau.1;
        norm_th = th.0.0.0;
        dip_th = th.0.0.1;
        min_gyr = th.0.1;
        factor = th.1;
        new_time = d.0.0.0;
        first_time = d.0.0.1;
        undisturbed = d.0.1;
        rejection = d.1;
      }

  module _ (p : MagneticParams) (ts : Float) (t : Taken p ts) where
    duration : (x : Float) → UpTo longest x → T (finite x)
    unfolding of_bits
    duration = between_finite zero longest tt w

    params_finite : T (finite_params p)
    unfolding finite_params of_bits
    params_finite =
        let least = each_finite least_tau tt w in
        let a = either_finite (least_tau w) _ least t.tau_mag in
        let b = either_finite ts _ (interval_finite w ts t.interval) t.current_tau in
        let c = either_finite (least_tau w) _ least t.ref_tau in
        let norm = between_finite zero norm_threshold_limit tt w _ t.norm_th in
        let dip = between_finite zero dip_threshold_limit tt w _ t.dip_th in
        let gyr = between_finite zero min_gyr_limit tt w _ t.min_gyr in
        let factor = between_finite one rejection_factor_limit tt w _ t.factor in
        simp both
        ((((((((((a, b), c), norm), dip), duration _ t.new_time), duration _ t.first_time), gyr), duration _ t.undisturbed), duration _ t.rejection), factor)

    coefficients_finite : T (finite_coefficients (setup w p ts))
    unfolding finite_coefficients setup
    coefficients_finite =
        let v = t.interval in
        let k = bounds w in
        simp both (((interval_finite w ts v, k.gain_finite _ ts v t.tau_mag), k.gain_finite _ ts v t.ref_tau), smoothing_finite _ ts v t.current_tau)

  pub new_finite : NewFinite w
  unfolding new
  new_finite p ts taken =
      let t = opened p ts taken in
      let s = fresh_finite p (duration p ts t _ t.rejection) in
      whole _ (record { params = params_finite p ts t; coeffs = coefficients_finite p ts t; heading = s.0; field = s.1 })
