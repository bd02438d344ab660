-- The sigma that is answered comes of the smaller of two numbers, of which one is `bias_p0`: it lies between 0 and what `bias_p0` itself would give.
use Rattle.floats.specs.Prelude.{T, Float, Format, binary32, binary64, of_bits, div, le, fits, add-fits, finite}
use Rattle.floats.specs.Notation.{zero, pi}
use Rattle.floats.specs.Decimals.{hundred, half_turn}
use Rattle.floats.specs.Definitions.{magnitude, larger, smaller}
use Rattle.floats.specs.Tests.{both}
use Rattle.floats.specs.Order.{nought, le→number, Within, within_finite, each_finite}
use Rattle.floats.specs.Products.{mul_mono, finite_number}
use Rattle.floats.specs.Intervals.{none, known, Expr, var, lit, mul', div', bound, inside, good, bounded, is_finite}
use Rattle.floats.proofs.FromZero.{magnitude_from, sum_from, larger_is, smaller_is, smaller_up_to}
use Rattle.numbers.specs.Root.{root}
use Rattle.numbers.proofs.RootOrder.{root_limit, root_within, root_up_to}
use Rattle.algebra.specs.Vectors as vectors
use Rattle.algebra.specs.Matrices as matrices
use Rattle.algebra.specs.declared.vector.Vector.{Vector}
use Rattle.inertial.specs.AllFinite.{all_finite}
use Rattle.inertial.specs.Asked.{row_sum, bias_estimate}
use Rattle.inertial.specs.declared.types.Inertial.{Inertial}
use Rattle.inertial.proofs.Parts.{parts, state_parts, bias_parts, p0_finite}
use Rattle.inertial.proofs.Sound.{Sound}
use Rattle.inertial.specs.HowFar.{sigma_of}

-- a value of the format from zero on, an infinity too
abbrev Fit : Format → Float → Type 0
Fit w x = T (fits w x) × T (le nought x)

row_fit : (w : Format) (v : Vector) → T (vectors.finite v) → Fit w (row_sum w v.0 v.1 v.2)
unfolding vectors.finite row_sum
row_fit w v h =
    let p = simp both at h in
    let from : (x : Float) → T (finite x) → T (le nought (magnitude x)) = λ x k. magnitude_from x (finite_number x k) in
    (add-fits w _ _, sum_from w _ _ (sum_from w _ _ (from v.0 p.0.0) (from v.1 p.0.1)) (from v.2 p.1))

-- ---- a root in the unit of the answer
abbrev unit : Format → Float
unit w = div w (div w (pi w) (hundred w)) (half_turn w)

abbrev unit' : Format → Expr
unit' w = div' (div' (lit (pi w)) (lit (hundred w))) (lit (half_turn w))

record Computed (w : Format) : Type 0 where
  unit_within : T (inside (bound w none (unit' w)) nought (pi w))
  unit_finite : T (good (bound w none (unit' w)))
  scaled_from : (x : Float) (v : Within x nought (root_limit w)) → T (inside (bound w (known x nought (root_limit w) v none) (mul' (var 0) (unit' w))) (zero w) (root_limit w))

computed : (w : Format) → Computed w
unfolding bound inside le of_bits
computed binary32 = record { unit_within = tt; unit_finite = tt; scaled_from = λ x v. tt }
computed binary64 = record { unit_within = tt; unit_finite = tt; scaled_from = λ x v. tt }

module _ (w : Format) (f : Inertial) (h : T (all_finite f)) (k : Sound w f) where
  abbrev p0 : Float
  p0 = f.coeffs.bias.bias_p0

  of_p0 : T (finite p0)
  of_p0 = p0_finite _ (parts f h).coeffs

  p0_fit : Fit w p0
  p0_fit = (k.variance.0, k.variance.1 (finite_number p0 of_p0))

  abbrev row : Vector → Float
  row v = row_sum w v.0 v.1 v.2

  abbrev least : Float
  least = let m = f.state.bias.bias_p in smaller (larger (larger (row (matrices.row0 m)) (row (matrices.row1 m))) (row (matrices.row2 m))) p0

  least_within : T (fits w least) × Within least nought p0
  unfolding matrices.finite
  least_within =
      let r = simp both at (bias_parts _ (state_parts _ (parts f h).state).bias).covariance in
      let m = f.state.bias.bias_p in
      let two = larger_is (Fit w) _ _ (row_fit w (matrices.row0 m) r.0.0) (row_fit w (matrices.row1 m) r.0.1) in
      let three = larger_is (Fit w) _ _ two (row_fit w (matrices.row2 m) r.1) in
      let fit : Fit w least = smaller_is (Fit w) _ p0 three p0_fit in
      (fit.0, (fit.1, smaller_up_to _ p0 (le→number nought _ three.1).1 (finite_number p0 of_p0)))

  root_least : Within (root w least) nought (root_limit w)
  root_least = let l = least_within in root_within w least l.0 (within_finite least nought p0 tt of_p0 l.1) l.1.0

  pub sigma_within : Within (bias_estimate w f).sigma (zero w) (sigma_of w p0)
  unfolding bias_estimate
  sigma_within =
      let l = least_within in
      let c = computed w in
      let u = bounded w none (unit' w) nought (pi w) c.unit_within in
      let small : (x : Float) → Within x nought (root_limit w) → T (finite x) = λ x. within_finite x nought (root_limit w) tt tt in
      let root_p0 = root_within w p0 p0_fit.0 of_p0 p0_fit.1 in
      let grows = root_up_to w least p0 l.0 p0_fit.0 of_p0 l.1 in
      let r = known (root w least) nought (root_limit w) root_least none in (
        (bounded w r (mul' (var 0) (unit' w)) (zero w) (root_limit w) (c.scaled_from _ root_least)).0,
        mul_mono w (root w least) (root w p0) (unit w) (small _ root_least) (small _ root_p0) (is_finite w none (unit' w) c.unit_finite) u.0 grows.1,
      )

  pub sigma_finite : T (finite (bias_estimate w f).sigma)
  unfolding bias_estimate
  sigma_finite =
      let r = known (root w least) nought (root_limit w) root_least none in
      let b = bounded w r (mul' (var 0) (unit' w)) (zero w) (root_limit w) ((computed w).scaled_from _ root_least) in
      within_finite _ (zero w) (root_limit w) (unfold of_bits in each_finite zero tt w) tt b
