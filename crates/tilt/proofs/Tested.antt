-- Rest and the quaternion are tested exactly for the numbers that are stored of them; all else is kept. So, where what was there is finite, the test says
-- whether what comes is.
use Rattle.floats.specs.Prelude.{true, ◌||◌, T, Float, Format, of_bits, sub, lt}
use Rattle.floats.specs.Notation.{zero}
use Rattle.floats.specs.Tests.{both, keeps}
use Rattle.floats.specs.Order.{each_finite}
use Rattle.algebra.specs.Vectors as vectors
use Rattle.algebra.specs.Quaternions as quaternions
use Rattle.algebra.specs.declared.vector.Vector.{Vector}
use Rattle.algebra.specs.declared.quaternion.Quaternion.{Quaternion}
use Rattle.filters.specs.declared.coeffs.Coeffs.{Coeffs}
use Rattle.limits.specs.declared.updated.Tried.{Tried}
use Rattle.tilt.specs.Rest.{broken}
use Rattle.tilt.specs.Gyr.{finite_gyr_rest, gyr_stirred, gyr_filtered, gyr_rest, turned, predicted}
use Rattle.tilt.specs.Acc.{finite_acc_rest, acc_filtered, counted, acc_stirred, acc_rest}
use Rattle.tilt.specs.Types.{Rest, RestParams}

abbrev pub Finite : Rest → Type 0
Finite r = T (finite_gyr_rest r) × T (finite_acc_rest r)

abbrev pub RestTested : Tried Rest → Type 0
RestTested t = (T t.finite → Finite t.value) × (Finite t.value → T t.finite)

module _ (w : Format) where
  broken_finite : (r : Rest) → Finite r → Finite (broken w r)
  unfolding finite_gyr_rest finite_acc_rest broken of_bits
  broken_finite r h = let a = simp both at h.1 in (h.0, simp both (((a.0.0.0, each_finite zero tt w), a.0.1), a.1))

  unbroken_finite : (r : Rest) → Finite (broken w r) → T (finite_gyr_rest r)
  unfolding finite_gyr_rest broken
  unbroken_finite r h = h.0

  module _ (r : Rest) (p : RestParams) (ts : Float) (k : Coeffs) (v : Vector) (h : Finite r) where
    gyr_filtered_finite : (tau : Float) → T (finite_gyr_rest (gyr_filtered w r tau ts k v)) → Finite (gyr_filtered w r tau ts k v)
    unfolding finite_acc_rest gyr_filtered
    gyr_filtered_finite tau g = (g, h.1)

    pub gyr_rest_tested : RestTested (gyr_rest w r p ts k v)
    unfolding gyr_rest
    gyr_rest_tested =
        let f = gyr_filtered w r p.rest_filter_tau ts k v in
        let stirred = gyr_stirred w p f.rest_last_squared_deviations.0 f.rest_last_gyr_lp in
        keeps RestTested (p.rest_bias_est_enabled || p.mag_dist_rejection_enabled) _ _
        (λ _. (
          λ g. let now = gyr_filtered_finite p.rest_filter_tau g in keeps Finite stirred _ _ (λ _. broken_finite f now) now,
          keeps (λ (q : Rest). Finite q → T (finite_gyr_rest f)) stirred _ _ (λ _. unbroken_finite f) (λ g. g.0),
        ))
        (λ _. h, λ _. tt)

    acc_filtered_finite : (tau : Float) → T (finite_gyr_rest (acc_filtered w r tau ts k v))
    unfolding finite_gyr_rest acc_filtered
    acc_filtered_finite tau = h.0

    pub acc_rest_tested : RestTested (acc_rest w r p ts k v)
    unfolding acc_rest finite_gyr_rest broken counted
    acc_rest_tested =
        let f = acc_filtered w r p.rest_filter_tau ts k v in
        let g = acc_filtered_finite p.rest_filter_tau in
        keeps RestTested p.rest_bias_est_enabled _ _
        (λ _. keeps RestTested (acc_stirred w p f) _ _ (λ _. (λ a. (g, a), λ a. a.1)) (λ a. (g, a), λ a. a.1))
        (λ _. h, λ _. tt)

  -- ---- the quaternion
  abbrev pub QuatTested : Tried Quaternion → Type 0
  QuatTested t = (T t.finite → T (quaternions.finite t.value)) × (T (quaternions.finite t.value) → T t.finite)

  pub predicted_tested : (q : Quaternion) (bias gyr : Vector) (ts : Float) → T (quaternions.finite q) → QuatTested (predicted w q bias gyr ts)
  unfolding predicted
  predicted_tested q bias gyr ts h =
      let unbiased = vectors.both (sub w) gyr bias in
      let n = vectors.norm w unbiased in
      let next = turned w q unbiased n ts in
      keeps QuatTested (lt (vectors.epsilon w) n)
      (record { finite = quaternions.finite next; value = next }) (record { finite = true; value = q }) (λ _. (λ g. g, λ g. g)) (λ _. h, λ _. tt)
