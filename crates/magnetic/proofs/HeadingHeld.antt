-- The heading keeps within ±PI: of two angles within ±PI the one is at most 2 PI from the other, rounding included, and a wrap takes 2 PI off, which is
-- no rounded number. The gain keeps within 0 and 1, whatever rejects or lifts it. Where there is no angle, the step finds no finite heading.
use Rattle.floats.specs.Prelude.{◌≡◌, refl, sym, subst, ap, ◌∙◌, ◌⊎◌, inl, inr, ◌&&◌, T, Float, nan, Format, sub, neg, lt, le, eq, ne, fits, add-fits, sub-fits, cond-fits, finite}
use Rattle.floats.specs.Notation.{rounded, zero, one, pi}
use Rattle.floats.specs.Tests.{both, either, is_false, keeps}
use Rattle.floats.specs.Fractions.{or_r}
use Rattle.floats.specs.Order.{nought, number, le_tr, le_rf, lt→le, lt→nle, nlt→le, le→number, Within, widen, within_finite, neg_finite}
use Rattle.floats.specs.Sums.{add_within}
use Rattle.floats.specs.Products.{mul_mono, mul_sym, finite_number}
use Rattle.floats.specs.Clamps.{cond_within}
use Rattle.floats.specs.Intervals.{none, known, var, lit, add', sub', mul', div', bounded}
use Rattle.floats.proofs.FromZero.{zero_level}
use Rattle.floats.proofs.Chosen.{chosen}
use Rattle.floats.proofs.Kept.{plus_nought, mul_neg}
use Rattle.filters.specs.Bounds.{Gain}
use Rattle.filters.proofs.Gains.{none_or_all}
use Rattle.limits.specs.Limits.{rejection_factor_limit}
use Rattle.magnetic.specs.Headings.{wrapped, rejected, lifted, next_init, corrected, finite_heading}
use Rattle.magnetic.specs.HowFar.{Angle, Moved}
use Rattle.magnetic.specs.Types.{Field, Heading, MagneticCoefficients, MagneticParams, Rejection}
use Rattle.magnetic.proofs.HeadingComputed.{turn, Factor, angle, gain, computed}

module _ (w : Format) where
  open rounded w use {◌⊕◌, ◌⊖◌, ◌⊗◌, ◌⊘◌}

  -- ---- the wrap
  ends_numbers : T (number (neg (pi w))) × T (number (pi w))
  ends_numbers = let e = (computed w).ends in (finite_number (neg (pi w)) e.0, finite_number (pi w) e.1)

  wrapped_within : (x : Float) → Within x (neg (turn w)) (turn w) → Angle w (wrapped w x)
  unfolding wrapped
  wrapped_within x v =
      let n = (le→number (neg (turn w)) x v.0).1 in
      let e = ends_numbers in
      chosen (Angle w) (lt (pi w) x) _ _
      (λ t. bounded w (known x (pi w) (turn w) (lt→le (pi w) x t, v.1) none) (sub' (var 0) (lit (turn w))) (neg (pi w)) (pi w) ((computed w).wrapped_down x _))
      (λ s. chosen (Angle w) (lt x (neg (pi w))) _ x
      (λ t. bounded w (known x (neg (turn w)) (neg (pi w)) (v.0, lt→le x (neg (pi w)) t) none) (add' (var 0) (lit (turn w))) (neg (pi w)) (pi w) ((computed w).wrapped_up x _))
      (λ t. (nlt→le x (neg (pi w)) n e.0 t, nlt→le (pi w) x e.1 n s)))

  wrapped_fits : (x : Float) → T (fits w x) → T (fits w (wrapped w x))
  unfolding wrapped
  wrapped_fits x h = cond-fits w (lt (pi w) x) _ _ (sub-fits w x (turn w)) (cond-fits w (lt x (neg (pi w))) _ x (add-fits w x (turn w)) h)

  not_wrapped : (x : Float) → Angle w x → wrapped w x ≡ x
  unfolding wrapped
  not_wrapped x v = rw (is_false (lt (pi w) x) (λ t. lt→nle (pi w) x t v.1), is_false (lt x (neg (pi w))) (λ t. lt→nle x (neg (pi w)) t v.0)) refl

  -- ---- the gain
  pub lifted_within : (k init : Float) → Gain w k → Gain w init → Gain w (lifted w k init)
  unfolding lifted
  lifted_within k init u v = cond_within (ne init (zero w) && lt k init) init k (zero w) (one w) v u

  next_within : (init tau ts : Float) → Gain w init → Gain w (next_init w init tau ts)
  unfolding next_init
  next_within init tau ts v =
      let next = init ⊘ (init ⊕ one w) in
      let h = bounded w (gain w init v none) (div' (var 0) (add' (var 0) (lit (one w)))) (zero w) (one w) ((computed w).next init v) in
      cond_within (ne init (zero w)) _ init (zero w) (one w) (cond_within (lt (next ⊗ tau) ts) (zero w) next (zero w) (one w) (none_or_all w).0 h) v

  pub rejected_within : (f : Field) (p : MagneticParams) (c : MagneticCoefficients) → Gain w c.k_mag → Factor w p.mag_rejection_factor → Gain w (rejected w f p c).k
  unfolding rejected
  rejected_within f p c u v =
      let P : Rejection → Type 0 = λ r. Gain w r.k in
      let r = p.mag_rejection_factor in
      let less = bounded w (gain w c.k_mag u (known r (one w) (rejection_factor_limit w) v none)) (div' (var 0) (var 1)) (zero w) (one w) ((computed w).lessened c.k_mag r u v) in
      keeps P f.mag_dist_detected _ _ (λ _. keeps P (le f.mag_reject_t p.mag_max_rejection_time) _ _ (λ _. (none_or_all w).0) less) u

  -- ---- the correction
  abbrev pub Headed : Float → Float → Float → Type 0
  Headed delta dis init = Angle w delta × T (fits w delta) × Angle w dis × Gain w init

  abbrev pub HeadingHeld : Heading → Type 0
  HeadingHeld h = Headed h.delta h.last_mag_dis_angle h.k_mag_init

  pub corrected_held : (h : Heading) (a k tau ts : Float) → (a ≡ nan) ⊎ Angle w a → Gain w k → HeadingHeld h
      → T (finite_heading (corrected w h a k tau ts)) → HeadingHeld (corrected w h a k tau ts)
  unfolding corrected finite_heading
  corrected_held h a k tau ts (inl e) v d t =
      absurd (subst (λ (x : Float). T (finite x)) (ap (λ (x : Float). wrapped w (x ⊖ h.delta)) e ∙ (computed w).no_angle h.delta) (simp both at t).0.1)
  corrected_held h a k tau ts (inr u) v d t =
      let used = lifted_within k h.k_mag_init v d.3 in
      let dis : Angle w (wrapped w (a ⊖ h.delta)) = wrapped_within _ (bounded w (angle w a u (angle w h.delta d.0 none)) (sub' (var 0) (var 1)) _ _ ((computed w).apart a h.delta u d.0)) in
      let to = bounded w (angle w h.delta d.0 (gain w _ used (angle w _ dis none))) (add' (var 0) (mul' (var 1) (var 2))) _ _ ((computed w).gone h.delta _ _ d.0 used dis) in
      (wrapped_within _ to, wrapped_fits _ (add-fits w _ _), dis, next_within h.k_mag_init tau ts d.3)

  -- ---- how far it goes
  level : (x y : Float) → Within x y y → T (eq x y)
  unfolding le
  level x y v = elim (either (lt x y) (eq x y) v.1) [ inl t ↦ absurd (lt→nle x y t v.0) | inr t ↦ t ]

  module _ (d k a : Float) (u : Angle w d) (v : Gain w k) (t : Angle w a) where
    itself : Within d d d
    itself = let r = le_rf d (le→number (neg (pi w)) d u.0).1 in (r, r)

    d_finite : T (finite d)
    d_finite = let e = (computed w).ends in within_finite d (neg (pi w)) (pi w) e.0 e.1 u

    reach : Within (k ⊗ a) (neg (k ⊗ pi w)) (k ⊗ pi w)
    reach =
        let e = (computed w).ends in
        let p = within_finite a (neg (pi w)) (pi w) e.0 e.1 t in
        let q = within_finite k (zero w) (one w) (computed w).units.0 (computed w).units.1 v in
        let g = le_tr nought (zero w) k (zero_level w).0 v.0 in
        rw (sym (mul_neg w k (pi w) q e.1), mul_sym w k a, mul_sym w k (pi w), mul_sym w k (neg (pi w)))
        (mul_mono w (neg (pi w)) a k e.0 p q g t.0, mul_mono w a (pi w) k p e.1 q g t.1)

    at_most : Within (d ⊕ k ⊗ a) (d ⊖ k ⊗ pi w) (d ⊕ k ⊗ pi w)
    unfolding sub
    at_most =
        let r = within_finite (k ⊗ pi w) (zero w) (pi w) (computed w).units.0 (computed w).ends.1 (bounded w (gain w k v none) (mul' (var 0) (lit (pi w))) (zero w) (pi w) ((computed w).largest k v)) in
        add_within w d (k ⊗ a) d d (neg (k ⊗ pi w)) (k ⊗ pi w) d_finite d_finite (neg_finite (k ⊗ pi w) r) r itself reach

    stays : T (fits w d) → T (eq k (zero w)) → T (eq (wrapped w (d ⊕ k ⊗ a)) d)
    stays f z =
        let k_nought : Within k nought nought = (le_tr nought (zero w) k (zero_level w).0 v.0, le_tr k (zero w) nought (unfold le in or_r (lt k (zero w)) (eq k (zero w)) z) (zero_level w).1) in
        let step = bounded w (known k nought nought k_nought (angle w a t none)) (mul' (var 0) (var 1)) nought nought ((computed w).nowhere k a k_nought t) in
        let sum = add_within w d (k ⊗ a) d d nought nought d_finite d_finite tt tt itself step in
        let same = plus_nought w d f d_finite in
        let at : Within (d ⊕ k ⊗ a) d d = widen _ _ _ d d same.0 same.1 sum in
        rw (not_wrapped _ (widen _ d d (neg (pi w)) (pi w) u.0 u.1 at)) (level _ d at)

  pub moved : (h g : Heading) (k : Float) → HeadingHeld h → Gain w k → Angle w g.last_mag_dis_angle → g.delta ≡ wrapped w (h.delta ⊕ k ⊗ g.last_mag_dis_angle) → Moved w h k g
  moved h g k d v t e = record {
    goes = e;
    at_most = at_most h.delta k _ d.0 v t;
    stays = λ z. rw e (stays h.delta k _ d.0 v t d.1 z);
  }
