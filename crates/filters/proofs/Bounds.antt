-- A bound on an expression is computed (`bounded`), with nothing known of tau and ts but that they are taken.
-- The angle's upper bound is no such: it holds because ts is at most tau.
use Rattle.floats.specs.Prelude.{◌≡◌, refl, sym, subst, ap, ◌∙◌, false, not, T, Float, nan, Format, binary32, binary64, of_bits, add, sub, mul, div, neg, le, round, finite, num, den, positive}
use Rattle.floats.specs.Notation.{rounded, zero, one}
use Rattle.floats.specs.Decimals.{ten_thousand, ten_thousandth}
use Rattle.floats.specs.NoNan.{is_the_nan}
use Rattle.floats.specs.Tests.{both}
use Rattle.floats.specs.Order.{le_tr, Within, within_finite, each_finite, between_finite}
use Rattle.floats.specs.Products.{mul_mono, mul_sym}
use Rattle.floats.specs.Quotients.{div_anti, positive_up}
use Rattle.floats.specs.Relative.{undone}
use Rattle.floats.specs.Intervals.{none, known, Expr, var, lit, add', sub', mul', div', bound, inside, bounded, is_finite}
use Rattle.numbers.specs.Constants.{𝟎, 𝟏, PI, TAN_LIMIT}
use Rattle.numbers.specs.Sines.{tan}
use Rattle.numbers.proofs.Ranges.{ranges}
use Rattle.filters.specs.Coefficients.{𝟐, SQRT_2, angle, coeffs, filter_coeffs, finite_coeffs, gain_from_tau}
use Rattle.filters.specs.declared.coeffs.Coeffs.{Coeffs}
use Rattle.filters.specs.Bounds.{Interval, Constant, Bounded, Bounds}
use Rattle.filters.proofs.Gains.{gain_within}
open rounded binary64 use {◌⊕◌, ◌⊖◌, ◌⊗◌, ◌⊘◌}

-- ---- the angle, PI * (K / tau) * ts: where tau is ts it undoes a division, but for two roundings, and a larger tau makes it smaller
abbrev K : Float
K = SQRT_2 ⊘ (𝟐 ⊗ PI)

abbrev K' : Expr
K' = div' (lit SQRT_2) (mul' (lit 𝟐) (lit PI))

-- the nearest binary32 to 0.0001 is below the nearest binary64: what either format takes lies from LEAST up to MOST
abbrev LEAST : Float
LEAST = ten_thousandth binary32

abbrev MOST : Float
MOST = ten_thousand binary64

abbrev EIGHTH : Float
EIGHTH = of_bits binary64 0x3fc0_0000_0000_0000

limit_rounded : round binary64 false (num TAN_LIMIT) (den TAN_LIMIT) ≡ TAN_LIMIT
unfolding round of_bits
limit_rounded = refl

module _ (t : Float) (v : Within t LEAST MOST) where
  above : T (positive t)
  unfolding of_bits
  above = positive_up t LEAST MOST tt tt v

  quotient_finite : T (finite (K ⊘ t))
  unfolding bound of_bits
  quotient_finite = is_finite binary64 (known t LEAST MOST v none) (div' K' (var 0)) tt

  product_finite : T (finite (PI ⊗ (K ⊘ t)))
  unfolding bound of_bits
  product_finite = is_finite binary64 (known t LEAST MOST v none) (mul' (lit PI) (div' K' (var 0))) tt

  at_itself : T (le t 𝟏) → T (le (angle t t) TAN_LIMIT)
  unfolding angle bound inside div mul of_bits
  at_itself u =
      let k = known t LEAST 𝟏 (v.0, u) none in
      let q = (bounded binary64 k (div' K' (var 0)) EIGHTH MOST tt).0 in
      let r = (bounded binary64 k (mul' (lit PI) (div' K' (var 0))) EIGHTH MOST tt).0 in
      subst (λ (z : Float). T (le (angle t t) z)) limit_rounded (undone binary64 PI K t TAN_LIMIT EIGHTH EIGHTH tt tt above tt tt quotient_finite q tt tt product_finite r tt)

module _ (tau ts : Float) (v : Within ts LEAST 𝟏) (u : Within tau ts MOST) where
  tau_taken : Within tau LEAST MOST
  tau_taken = (le_tr LEAST ts tau v.0 u.0, u.1)

  ts_taken : Within ts LEAST MOST
  ts_taken = (v.0, le_tr ts tau MOST u.0 u.1)

  from_zero : T (le 𝟎 (angle tau ts))
  unfolding angle bound inside of_bits
  from_zero = (bounded binary64 (known tau LEAST MOST tau_taken (known ts LEAST 𝟏 v none)) (mul' (mul' (lit PI) (div' K' (var 0))) (var 1)) 𝟎 MOST tt).0

  smaller : T (le (angle tau ts) (angle ts ts))
  unfolding angle le div mul of_bits
  smaller =
      let q = K ⊘ tau in
      let p = K ⊘ ts in
      mul_mono binary64 (PI ⊗ q) (PI ⊗ p) ts (product_finite tau tau_taken) (product_finite ts ts_taken) (within_finite ts LEAST 𝟏 tt tt v) (le_tr 𝟎 LEAST ts tt v.0)
      (rw (mul_sym binary64 PI q, mul_sym binary64 PI p)
      (mul_mono binary64 q p PI (quotient_finite tau tau_taken) (quotient_finite ts ts_taken) tt tt
      (div_anti binary64 K ts tau tt (above ts ts_taken) (above tau tau_taken) tt u.0)))

  angle_within : Within (angle tau ts) 𝟎 TAN_LIMIT
  angle_within = (from_zero, le_tr (angle tau ts) (angle ts ts) TAN_LIMIT smaller (at_itself ts ts_taken v.1))

-- ---- the coefficients, from the tangent c
abbrev d' : Expr
d' = add' (add' (mul' (var 0) (var 0)) (mul' (lit SQRT_2) (var 0))) (lit 𝟏)

abbrev b0' : Expr
b0' = div' (mul' (var 0) (var 0)) d'

coeffs_within : (c : Float) → Within c 𝟎 𝟏 → Bounded (coeffs c)
unfolding coeffs bound inside neg of_bits
coeffs_within c w =
    let k = known c 𝟎 𝟏 w none in (
      bounded binary64 k b0' 𝟎 𝟏 tt,
      bounded binary64 k (mul' (lit 𝟐) b0') 𝟎 𝟐 tt,
      bounded binary64 k b0' 𝟎 𝟏 tt,
      bounded binary64 k (div' (mul' (lit 𝟐) (sub' (mul' (var 0) (var 0)) (lit 𝟏))) d') (neg 𝟐) 𝟎 tt,
      bounded binary64 k (div' (add' (sub' (lit 𝟏) (mul' (lit SQRT_2) (var 0))) (mul' (var 0) (var 0))) d') (neg 𝟐) 𝟐 tt,
    )

within→finite : (k : Coeffs) → Bounded k → T (finite_coeffs k)
unfolding finite_coeffs neg of_bits
within→finite k h =
    let b0 = within_finite k.b0 𝟎 𝟏 tt tt h.0 in
    let b1 = within_finite k.b1 𝟎 𝟐 tt tt h.1 in
    let b2 = within_finite k.b2 𝟎 𝟏 tt tt h.2 in
    let a1 = within_finite k.a1 (neg 𝟐) 𝟎 tt tt h.3 in
    let a2 = within_finite k.a2 (neg 𝟐) 𝟐 tt tt h.4 in
    simp both ((((b0, b1), b2), a1), a2)

no_coeffs : coeffs nan ≡ record { b0 = nan; b1 = nan; b2 = nan; a1 = nan; a2 = nan }
unfolding coeffs add sub mul div neg of_bits
no_coeffs = refl

-- ---- what the format w takes
common : (w : Format) (tau ts : Float) → Interval w ts → Constant w tau ts → Within ts LEAST 𝟏 × Within tau ts MOST
unfolding le of_bits
common binary32 tau ts v u = (v, u)
common binary64 tau ts v u = ((le_tr LEAST (ten_thousandth binary64) ts tt v.0, v.1), u)

module _ (w : Format) where
  of_angle : (tau ts : Float) → Interval w ts → Constant w tau ts → Within (angle tau ts) 𝟎 TAN_LIMIT
  of_angle tau ts v u = let c = common w tau ts v u in angle_within tau ts c.0 c.1

  of_tangent : (tau ts : Float) → Interval w ts → Constant w tau ts → Bounded (filter_coeffs tau ts)
  unfolding filter_coeffs
  of_tangent tau ts v u = coeffs_within (tan (angle tau ts)) ((ranges w).tan.within (angle tau ts) (of_angle tau ts v u))

  pub bounds : Bounds w
  unfolding filter_coeffs of_bits
  bounds = record {
    angle_within = of_angle;
    filter_coeffs_within = of_tangent;
    filter_coeffs_finite = λ tau ts v u. within→finite (filter_coeffs tau ts) (of_tangent tau ts v u);
    filter_coeffs_outside = λ tau ts h. ap coeffs (is_the_nan (tan (angle tau ts)) (subst T (sym ((ranges w).tan.domain (angle tau ts) ∙ ap not h)) tt)) ∙ no_coeffs;
    gain_within = gain_within w;
    gain_finite = λ tau ts v u. between_finite zero one tt w (gain_from_tau w tau ts) (gain_within w tau ts v u);
  }

  -- ---- what is taken is finite itself
  pub interval_finite : (ts : Float) → Interval w ts → T (finite ts)
  unfolding of_bits
  interval_finite = between_finite ten_thousandth one tt w

  pub constant_finite : (tau ts : Float) → T (finite ts) → Constant w tau ts → T (finite tau)
  unfolding of_bits
  constant_finite tau ts f = within_finite tau ts (ten_thousand w) f (each_finite ten_thousand tt w)
