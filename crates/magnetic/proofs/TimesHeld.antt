-- No time of the field is below 0, and no count: an interval is added to a time, or it begins again at 0 or at a setting. The rejection time grows by an
-- interval where it is at most its limit, and what is taken off it is at least 0.
use Rattle.std.specs.Prelude.{Option, None, Some}
use Rattle.floats.specs.Prelude.{◌&&◌, ◌||◌, List, T, Float, Format, binary32, binary64, add, sub, mul, neg, le, eq, fits, of_bits, add-fits, finite}
use Rattle.floats.specs.Notation.{rounded, zero, one, pi}
use Rattle.floats.specs.Decimals.{ten_thousandth, ten_thousand, half_turn}
use Rattle.floats.specs.Definitions.{larger}
use Rattle.floats.specs.Tests.{keeps}
use Rattle.floats.specs.Order.{nought, le_tr, le_rf, le→number, Within, within_finite, neg_finite, neg_le}
use Rattle.floats.specs.Sums.{add_mono}
use Rattle.floats.specs.Products.{finite_number}
use Rattle.floats.specs.Clamps.{larger_from_first, larger_up_to}
use Rattle.floats.specs.Intervals.{none, known, var, add', mul', bound, inside, bounded, good, is_finite}
use Rattle.floats.proofs.FromZero.{zero_level, zero_from, sum_from_zero}
use Rattle.floats.proofs.Kept.{plus_nought}
use Rattle.algebra.specs.declared.vector.Vector.{Vector}
use Rattle.filters.specs.Counts.{all_from_zero}
use Rattle.filters.specs.declared.channel.Channel.{Channel}
use Rattle.filters.specs.declared.coeffs.Coeffs.{Coeffs}
use Rattle.filters.specs.Bounds.{Interval}
use Rattle.filters.proofs.Counts.{channels_from_zero, fresh_from_zero}
use Rattle.limits.specs.Limits.{rejection_factor_limit}
use Rattle.magnetic.specs.Fields.{smoothed, near, undisturbed, reference_step, candidate_time, counted_candidate, accepted, candidate_step, field_step, norm_and_dip}
use Rattle.magnetic.specs.Headings.{rejected}
use Rattle.magnetic.specs.Setup.{restarted_field}
use Rattle.magnetic.specs.Told.{reference, candidate, with_reject_t}
use Rattle.magnetic.specs.Types.{Field, MagneticCoefficients, MagneticParams, NormDip, Rejection}
use Rattle.magnetic.proofs.HeadingComputed.{Factor}

-- ---- what the prover computes in each format
module _ (w : Format) where
  abbrev pub Duration : Float → Type 0
  Duration t = Within t (zero w) (ten_thousand w)

  record Computed : Type 0 where
    interval : (ts : Float) (v : Interval w ts) → T (good (bound w (known ts (ten_thousandth w) (one w) v none) (var 0)))
    limit : (t ts : Float) (u : Duration t) (v : Interval w ts) → T (good (bound w (known t (zero w) (ten_thousand w) u (known ts (ten_thousandth w) (one w) v none)) (add' (var 0) (var 1))))
    taken_off : (r ts : Float) (u : Factor w r) (v : Interval w ts)
        → T (inside (bound w (known r (one w) (rejection_factor_limit w) u (known ts (ten_thousandth w) (one w) v none)) (mul' (var 0) (var 1))) nought (rejection_factor_limit w))
    zero_finite : T (finite (zero w))
    longest_finite : T (finite (ten_thousand w))
    factor_finite : T (finite (rejection_factor_limit w))
    interval_from : T (le (zero w) (ten_thousandth w))

computed : (w : Format) → Computed w
unfolding bound inside mul le of_bits
computed binary32 = record { interval = λ ts v. tt; limit = λ t ts u v. tt; taken_off = λ r ts u v. tt; zero_finite = tt; longest_finite = tt; factor_finite = tt; interval_from = tt }
computed binary64 = record { interval = λ ts v. tt; limit = λ t ts u v. tt; taken_off = λ r ts u v. tt; zero_finite = tt; longest_finite = tt; factor_finite = tt; interval_from = tt }

-- ---- the settings that the times turn on
pub record TimesSet (w : Format) (p : MagneticParams) (c : MagneticCoefficients) : Type 0 where
  pub interval : Interval w c.mag_ts
  pub factor : Factor w p.mag_rejection_factor
  pub longest : Duration w p.mag_max_rejection_time
  pub least : Duration w p.mag_min_undisturbed_time

-- the four, with the longest rejection time and the interval that limit the first
pub record FromZero (w : Format) (longest ts reject_t undisturbed_t candidate_t : Float) (norm_dip : List Channel) : Type 0 where
  pub rejecting : T (fits w longest) → Within reject_t (zero w) (add w longest ts)
  pub undisturbed : T (le (zero w) undisturbed_t)
  pub candidate : T (le (zero w) candidate_t)
  pub counts : T (all_from_zero 2 norm_dip)

module _ (w : Format) (p : MagneticParams) (c : MagneticCoefficients) where
  open rounded w use {◌⊕◌, ◌⊖◌, ◌⊗◌, ◌⊘◌}

  abbrev limit : Float
  limit = p.mag_max_rejection_time ⊕ c.mag_ts

  abbrev pub Times : Float → Float → Float → List Channel → Type 0
  Times = FromZero w p.mag_max_rejection_time c.mag_ts

  abbrev pub TimesHeld : Field → Type 0
  TimesHeld f = Times f.mag_reject_t f.mag_undisturbed_t f.mag_candidate_t f.mag_norm_dip_lp_state

  module _ (s : TimesSet w p c) where
    ts_finite : T (finite c.mag_ts)
    ts_finite = is_finite w (known c.mag_ts (ten_thousandth w) (one w) s.interval none) (var 0) ((computed w).interval _ s.interval)

    ts_from : T (le (zero w) c.mag_ts)
    ts_from = le_tr (zero w) (ten_thousandth w) c.mag_ts (computed w).interval_from s.interval.0

    longest_finite : T (finite p.mag_max_rejection_time)
    longest_finite = let e = computed w in within_finite p.mag_max_rejection_time (zero w) (ten_thousand w) e.zero_finite e.longest_finite s.longest

    limit_finite : T (finite limit)
    limit_finite =
        is_finite w (known p.mag_max_rejection_time (zero w) (ten_thousand w) s.longest (known c.mag_ts (ten_thousandth w) (one w) s.interval none)) (add' (var 0) (var 1))
        ((computed w).limit _ _ s.longest s.interval)

    pub restarted_held : (x : NormDip) → TimesHeld (restarted_field w p x)
    unfolding restarted_field
    restarted_held x =
        let t = p.mag_max_rejection_time in
        let r = zero_from w in
        let grows = add_mono w t t nought c.mag_ts longest_finite longest_finite tt ts_finite (le_rf t (finite_number t longest_finite)) (le_tr nought (zero w) c.mag_ts (zero_level w).0 ts_from) in
        record { rejecting = λ f. (s.longest.0, le_tr t (t ⊕ nought) limit (plus_nought w t f longest_finite).0 grows); undisturbed = r; candidate = r; counts = fresh_from_zero 2 }

    -- ---- what a sample tells of the field
    longer : (t : Float) → T (le (zero w) t) → T (le (zero w) (t ⊕ c.mag_ts))
    longer t h = sum_from_zero w t c.mag_ts h ts_from

    undisturbed_held : (f : Field) → TimesHeld f → TimesHeld (undisturbed w f p c)
    unfolding undisturbed
    undisturbed_held f h =
        let k = longer f.mag_undisturbed_t h.undisturbed in
        keeps TimesHeld (le p.mag_min_undisturbed_time (f.mag_undisturbed_t ⊕ c.mag_ts)) _ _
        (λ _. record { rejecting = h.rejecting; undisturbed = k; candidate = h.candidate; counts = h.counts })
        (record { rejecting = h.rejecting; undisturbed = k; candidate = h.candidate; counts = h.counts })

    reference_held : (f : Field) → TimesHeld f → TimesHeld (reference_step w f p c)
    unfolding reference_step
    reference_held f h =
        keeps TimesHeld (near w f.mag_norm_dip (reference f) p) _ _ (λ _. undisturbed_held f h)
        (record { rejecting = h.rejecting; undisturbed = zero_from w; candidate = h.candidate; counts = h.counts })

    counted_held : (f : Field) (gyr : Float) → TimesHeld f → TimesHeld (counted_candidate w f p c gyr)
    unfolding counted_candidate candidate_time
    counted_held f gyr h =
        let k = keeps (λ (t : Float). T (le (zero w) t)) (le (p.mag_new_min_gyr ⊗ pi w ⊘ half_turn w) gyr) _ _ (λ _. longer f.mag_candidate_t h.candidate) h.candidate in
        record { rejecting = h.rejecting; undisturbed = h.undisturbed; candidate = k; counts = h.counts }

    accepted_held : (f : Field) → TimesHeld f → TimesHeld (accepted w f p)
    unfolding accepted
    accepted_held f h =
        let t = f.mag_candidate_t in
        keeps TimesHeld (f.mag_dist_detected && (le p.mag_new_time t || eq f.mag_ref_norm (zero w) && le p.mag_new_first_time t)) _ _
        (λ _. record { rejecting = h.rejecting; undisturbed = s.least.0; candidate = h.candidate; counts = h.counts }) h

    candidate_held : (f : Field) (gyr : Float) → TimesHeld f → TimesHeld (candidate_step w f p c gyr)
    unfolding candidate_step
    candidate_held f gyr h =
        keeps TimesHeld (near w f.mag_norm_dip (candidate f) p) _ _ (λ _. accepted_held _ (counted_held f gyr h))
        (record { rejecting = h.rejecting; undisturbed = h.undisturbed; candidate = zero_from w; counts = h.counts })

    -- ---- what rejection leaves
    taken_off : (t : Float) → Within t (zero w) limit → Within (larger (zero w) (t ⊖ p.mag_rejection_factor ⊗ c.mag_ts)) (zero w) limit
    unfolding sub
    taken_off t v =
        let x = p.mag_rejection_factor ⊗ c.mag_ts in
        let e = computed w in
        let b = bounded w (known p.mag_rejection_factor (one w) (rejection_factor_limit w) s.factor (known c.mag_ts (ten_thousandth w) (one w) s.interval none)) (mul' (var 0) (var 1)) nought (rejection_factor_limit w) ((computed w).taken_off _ _ s.factor s.interval) in
        let x_finite = within_finite x nought (rejection_factor_limit w) tt e.factor_finite b in
        let t_finite = within_finite t (zero w) limit e.zero_finite limit_finite v in
        let off = le_tr (neg x) (neg nought) nought (neg_le nought x b.0) (unfold le neg in tt) in
        let most = le_tr (t ⊕ neg x) (limit ⊕ nought) limit (add_mono w t limit (neg x) nought t_finite limit_finite (neg_finite x x_finite) tt v.1 off) (plus_nought w limit (add-fits w p.mag_max_rejection_time c.mag_ts) limit_finite).1 in
        (larger_from_first (zero w) (t ⊕ neg x) (finite_number (zero w) e.zero_finite) (le→number (t ⊕ neg x) limit most).0, larger_up_to (zero w) (t ⊕ neg x) limit (le_tr (zero w) t limit v.0 v.1) most)

    pub rejected_held : (f : Field) → TimesHeld f → TimesHeld (rejected w f p c).field
    unfolding rejected with_reject_t
    rejected_held f h =
        let P : Rejection → Type 0 = λ r. TimesHeld r.field in
        let t = f.mag_reject_t in
        let T₀ = p.mag_max_rejection_time in
        let ts = c.mag_ts in
        let grows : T (le t T₀) → T (fits w T₀) → Within (t ⊕ ts) (zero w) limit =
        λ k u.
        let v = h.rejecting u in
        (longer t v.0, add_mono w t T₀ ts ts (within_finite t (zero w) limit (computed w).zero_finite limit_finite v) longest_finite ts_finite ts_finite k (le_rf ts (finite_number ts ts_finite))) in
        keeps P f.mag_dist_detected _ _ (λ _. keeps P (le t T₀) _ _ (λ k. record { rejecting = grows k; undisturbed = h.undisturbed; candidate = h.candidate; counts = h.counts }) h)
        (record { rejecting = λ u. taken_off t (h.rejecting u); undisturbed = h.undisturbed; candidate = h.candidate; counts = h.counts })

-- ---- the filter of norm and dip, absent or present
module _ (w : Format) (p : MagneticParams) (c : MagneticCoefficients) (f : Field) (x : NormDip) (tau ts k k_ref : Float) where
  smoothed_held : (s : Option Coeffs) → TimesHeld w p c f → TimesHeld w p c (smoothed w f x tau (record { mag_ts = ts; k_mag = k; k_mag_ref = k_ref; mag_norm_dip_lp = s }))
  unfolding smoothed
  smoothed_held None h = h
  smoothed_held (Some q) h = record { rejecting = h.rejecting; undisturbed = h.undisturbed; candidate = h.candidate; counts = channels_from_zero w 2 _ tau ts q f.mag_norm_dip_lp_state h.counts }

pub field_held : (w : Format) (p : MagneticParams) (c : MagneticCoefficients) → TimesSet w p c → (f : Field) (mag_earth gyr_lp : Vector) → TimesHeld w p c f → TimesHeld w p c (field_step w f p c mag_earth gyr_lp)
unfolding field_step
field_held w p c s f mag_earth gyr_lp h =
    candidate_held w p c s _ _ (reference_held w p c s _ (smoothed_held w p c f (norm_and_dip w mag_earth) p.mag_current_tau c.mag_ts c.k_mag c.k_mag_ref c.mag_norm_dip_lp h))
