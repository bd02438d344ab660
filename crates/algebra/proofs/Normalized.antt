-- A normalised quaternion that came out finite has no large component, whatever went in: a large one makes the norm as large.
-- The bound is crude; it keeps the product of two such quaternions finite, also where a heading turns it.
use Rattle.floats.specs.Prelude.{◌⊎◌, inl, inr, Bool, true, false, not, ℕ, ℤ, pos, T, Float, nan, inf, fin, Format, binary32, binary64, size, odd, of_bits, add, mul, div, neg, lt, le, fits, add-fits}
use lib.Ieee.Scale as scale
use Rattle.floats.specs.Notation.{rounded, one, two, pi}
use Rattle.floats.specs.Definitions.{magnitude}
use Rattle.floats.specs.Tests.{both, keeps}
use Rattle.floats.specs.Order.{nought, number, le_tr, le_rf, lt→nle, nlt→le, le→number, Within, within_finite, widen}
use Rattle.floats.specs.Quotients.{positive_up}
use Rattle.floats.specs.Products.{square_from, finite_number}
use Rattle.floats.specs.Intervals.{Known, none, known, Expr, var, lit, add', sub', mul', div', eval, bound, inside, good, bounded, is_finite}
use Rattle.floats.proofs.FromZero.{magnitude_finite, magnitude_from, magnitude_within, square_grows, sum_from, sum_grows, total, numerator_finite}
use Rattle.floats.proofs.Chosen.{chosen}
use Rattle.numbers.specs.Constants.{ANGLE_LIMIT}
use Rattle.numbers.specs.Root.{root}
use Rattle.numbers.specs.Sines.{sin, cos}
use Rattle.numbers.proofs.Ranges.{ranges}
use Rattle.numbers.proofs.RootOrder.{half_range, root_grows, root_within}
use Rattle.algebra.specs.Vectors.{epsilon}
use Rattle.algebra.specs.Quaternions.{quaternion, identity, times, norm, normalize, apply_delta, finite}
use Rattle.algebra.specs.declared.quaternion.Quaternion.{Quaternion}

abbrev Each : (Float → Type 0) → Quaternion → Type 0
Each P q = P q.0 × P q.1 × P q.2 × P q.3

abbrev Finite : Float → Type 0
Finite x = T (scale.finite x)

each_finite : (q : Quaternion) → T (finite q) → Each Finite q
unfolding finite
each_finite q h = let a = simp both at h in (a.0.0.0, a.0.0.1, a.0.1, a.1)

-- ---- the sum under the root grows with the magnitude of each component
module _ (w : Format) where
  open rounded w use {◌⊕◌, ◌⊗◌}

  abbrev squares : Quaternion → Float
  squares q = q.0 ⊗ q.0 ⊕ q.1 ⊗ q.1 ⊕ q.2 ⊗ q.2 ⊕ q.3 ⊗ q.3

  squares_from : (q : Quaternion) → Each Finite q → T (le nought (squares q))
  squares_from q Q =
      let from : (x : Float) → Finite x → T (le nought (x ⊗ x)) = square_from w in
      sum_from w _ _ (sum_from w _ _ (sum_from w _ _ (from q.0 Q.0) (from q.1 Q.1)) (from q.2 Q.2)) (from q.3 Q.3)

  squares_grow : (p q : Quaternion) → Each Finite p → Each Finite q
      → T (le (magnitude p.0) (magnitude q.0)) → T (le (magnitude p.1) (magnitude q.1))
      → T (le (magnitude p.2) (magnitude q.2)) → T (le (magnitude p.3) (magnitude q.3))
      → T (le (squares p) (squares q))
  squares_grow p q P Q a b c d =
      let p₀ = square_from w p.0 P.0 in
      let p₁ = square_from w p.1 P.1 in
      let p₂ = square_from w p.2 P.2 in
      let p₃ = square_from w p.3 P.3 in
      let s₁ = sum_from w _ _ p₀ p₁ in
      let s₂ = sum_from w _ _ s₁ p₂ in
      let g₁ = sum_grows w _ _ _ _ p₀ (square_grows w p.0 q.0 P.0 Q.0 a) p₁ (square_grows w p.1 q.1 P.1 Q.1 b) in
      let g₂ = sum_grows w _ _ _ _ s₁ g₁ p₂ (square_grows w p.2 q.2 P.2 Q.2 c) in
      sum_grows w _ _ _ _ s₂ g₂ p₃ (square_grows w p.3 q.3 P.3 Q.3 d)

-- ---- powers of 2 in each format: a component from `large` on makes the norm as large, one from `largest` on an infinite sum; what is normalised stays within
-- `small`, a product of two such within `product`
abbrev pub power : ℕ → Float
power k = fin false 1 (pos k)

abbrev exponent : ℕ → ℕ → Format → ℕ
exponent a b binary32 = a
exponent a b binary64 = b

module _ (w : Format) where
  abbrev large : Float
  large = power (exponent 21 300 w)

  abbrev squared : Float
  squared = power (exponent 42 600 w)

  abbrev largest : Float
  largest = power (half_range w)

  abbrev pub small : Float
  small = power (exponent 44 352 w)

  abbrev product : Float
  product = power (exponent 92 720 w)

abbrev term : ℕ → ℕ → Expr
term i j = mul' (var i) (var j)

module _ (w : Format) where
  abbrev Sized : Float → Float → Type 0
  Sized c x = Within x (neg c) c

  abbrev pub Small : Float → Type 0
  Small = Sized (small w)

  abbrev pub AllSmall : Quaternion → Type 0
  AllSmall = Each Small

  abbrev pub AllProducts : Quaternion → Type 0
  AllProducts = Each (Sized (product w))

  abbrev Alone : Float → Float → Type 0
  Alone c s =
      T (le s (squares w (quaternion c nought nought nought)))
      × T (le s (squares w (quaternion nought c nought nought)))
      × T (le s (squares w (quaternion nought nought c nought)))
      × T (le s (squares w (quaternion nought nought nought c)))

  abbrev divided' : (c b x n : Float) → Sized c x → Within n b (largest w) → Known
  divided' c b x n v u = known x (neg c) c v (known n b (largest w) u none)

  abbrev four : (c : Float) (q : Quaternion) → Each (Sized c) q → Known → Known
  four c q v k = known q.0 (neg c) c v.0 (known q.1 (neg c) c v.1 (known q.2 (neg c) c v.2 (known q.3 (neg c) c v.3 k)))

  abbrev turned : (c s : Float) (q : Quaternion) → Sized (one w) c → Sized (one w) s → AllProducts q → Known
  turned c s q u v k = known c (neg (one w)) (one w) u (known s (neg (one w)) (one w) v (four (product w) q k none))

  abbrev Inside : Known → Expr → Float → Type 0
  Inside k e c = T (inside (bound w k e) (neg c) c)

  -- what the prover computes in each format
  record Computed : Type 0 where
    large_alone : Alone (large w) (squared w)
    largest_alone : Alone (largest w) (inf false)
    identity_small : AllSmall (identity w)
    root_of_squared : T (fits w (squared w)) × T (le (large w) (root w (squared w)))
    below : T (le (neg (small w)) (neg (large w))) × T (le (large w) (small w)) × T (number (epsilon w)) × T (le (epsilon w) (large w))
    near : (x n : Float) (v : Sized (large w) x) (u : Within n (epsilon w) (largest w)) → Inside (divided' (large w) (epsilon w) x n v u) (div' (var 0) (var 1)) (small w)
    far : (x n : Float) (v : Sized (largest w) x) (u : Within n (large w) (largest w)) → Inside (divided' (largest w) (large w) x n v u) (div' (var 0) (var 1)) (small w)
    products :
        (p q : Quaternion) (a : AllSmall p) (b : AllSmall q) → let k = four (small w) p a (four (small w) q b none) in
        Inside k (sub' (sub' (sub' (term 0 4) (term 1 5)) (term 2 6)) (term 3 7)) (product w)
        × Inside k (sub' (add' (add' (term 0 5) (term 1 4)) (term 2 7)) (term 3 6)) (product w)
        × Inside k (add' (add' (sub' (term 0 6) (term 1 7)) (term 2 4)) (term 3 5)) (product w)
        × Inside k (add' (sub' (add' (term 0 7) (term 1 6)) (term 2 5)) (term 3 4)) (product w)
    served : (d : Float) (v : Sized (pi w) d) → Inside (known d (neg (pi w)) (pi w) v none) (div' (var 0) (lit (two w))) ANGLE_LIMIT
    turned_finite :
        (c s : Float) (q : Quaternion) (u : Sized (one w) c) (v : Sized (one w) s) (t : AllProducts q) → let k = turned c s q u v t in
        T (good (bound w k (sub' (term 0 2) (term 1 5)))) × T (good (bound w k (sub' (term 0 3) (term 1 4))))
        × T (good (bound w k (add' (term 0 4) (term 1 3)))) × T (good (bound w k (add' (term 0 5) (term 1 2))))

over_infinity : (w : Format) (s : Bool) (m : ℕ) (e : ℤ) → Small w (div w (fin s m e) (inf false))
unfolding div neg le
over_infinity binary32 true m e = (tt, tt)
over_infinity binary32 false m e = (tt, tt)
over_infinity binary64 true m e = (tt, tt)
over_infinity binary64 false m e = (tt, tt)

computed : (w : Format) → Computed w
unfolding bound inside root odd size add mul div neg le fits of_bits
computed binary32 = record { large_alone = (tt, tt, tt, tt); largest_alone = (tt, tt, tt, tt); identity_small = ((tt, tt), (tt, tt), (tt, tt), (tt, tt)); root_of_squared = (tt, tt); below = (tt, tt, tt, tt); near = λ x n v u. tt; far = λ x n v u. tt; products = λ p q a b. (tt, tt, tt, tt); served = λ d v. tt; turned_finite = λ c s q u v t. (tt, tt, tt, tt) }
computed binary64 = record { large_alone = (tt, tt, tt, tt); largest_alone = (tt, tt, tt, tt); identity_small = ((tt, tt), (tt, tt), (tt, tt), (tt, tt)); root_of_squared = (tt, tt); below = (tt, tt, tt, tt); near = λ x n v u. tt; far = λ x n v u. tt; products = λ p q a b. (tt, tt, tt, tt); served = λ d v. tt; turned_finite = λ c s q u v t. (tt, tt, tt, tt) }

-- ---- one component x, and the sum s
record Under (w : Format) (x s : Float) : Type 0 where
  pub finite_x : Finite x
  pub fits_s : T (fits w s)
  pub from_s : T (le nought s)
  pub large_s : T (le (large w) (magnitude x)) → T (le (squared w) s)
  pub largest_s : T (le (largest w) (magnitude x)) → T (le (inf false) s)

component : (x c : Float) → Finite x → Finite c → Within x (neg c) c ⊎ T (le c (magnitude x))
component x c p q = elim (total (magnitude x) c (finite_number (magnitude x) (magnitude_finite x p)) (finite_number c q)) [ inl h ↦ inl (magnitude_within x c p h) | inr h ↦ inr h ]

module _ (w : Format) where
  k : Computed w
  k = computed w

  pub identity_small : AllSmall w (identity w)
  identity_small = k.identity_small

  -- what one large component makes of the sum, wherever it stands
  reach : (e : ℕ) (s : Float) → Alone w (power e) s → (q : Quaternion) → Each Finite q → Each (λ x. T (le (power e) (magnitude x)) → T (le s (squares w q))) q
  unfolding magnitude
  reach e s a q Q =
      let c = power e in
      let least : (x : Float) → Finite x → T (le nought (magnitude x)) = λ x p. magnitude_from x (finite_number x p) in
      let m₀ = least q.0 Q.0 in
      let m₁ = least q.1 Q.1 in
      let m₂ = least q.2 Q.2 in
      let m₃ = least q.3 Q.3 in (
        λ h. le_tr s _ _ a.0 (squares_grow w (quaternion c nought nought nought) q (tt, tt, tt, tt) Q h m₁ m₂ m₃),
        λ h. le_tr s _ _ a.1 (squares_grow w (quaternion nought c nought nought) q (tt, tt, tt, tt) Q m₀ h m₂ m₃),
        λ h. le_tr s _ _ a.2 (squares_grow w (quaternion nought nought c nought) q (tt, tt, tt, tt) Q m₀ m₁ h m₃),
        λ h. le_tr s _ _ a.3 (squares_grow w (quaternion nought nought nought c) q (tt, tt, tt, tt) Q m₀ m₁ m₂ h),
      )

  all_under : (q : Quaternion) → Each Finite q → Each (λ x. Under w x (squares w q)) q
  all_under q Q =
      let a = reach _ (squared w) k.large_alone q Q in
      let b = reach _ (inf false) k.largest_alone q Q in
      let g = squares_from w q Q in
      let f = add-fits w _ _ in (
        record { finite_x = Q.0; fits_s = f; from_s = g; large_s = a.0; largest_s = b.0 },
        record { finite_x = Q.1; fits_s = f; from_s = g; large_s = a.1; largest_s = b.1 },
        record { finite_x = Q.2; fits_s = f; from_s = g; large_s = a.2; largest_s = b.2 },
        record { finite_x = Q.3; fits_s = f; from_s = g; large_s = a.3; largest_s = b.3 },
      )

  -- the norm is large where the sum is
  large_norm : (s : Float) → T (fits w s) → T (le (squared w) s) → T (le (large w) (root w s))
  large_norm nan u h = absurd (le→number (squared w) nan h).1
  large_norm (inf true) u h = unfold le in absurd h
  large_norm (inf false) u h = unfold le root in tt
  large_norm (fin t n d) u h =
      let s = fin t n d in
      let r = k.root_of_squared in
      le_tr (large w) (root w (squared w)) (root w s) r.1 (root_grows w (squared w) s r.0 u tt (positive_up s (squared w) s tt tt (h, le_rf s tt)) h)

  -- ---- a norm below epsilon: x is kept
  kept : (x s : Float) → Under w x s → T (lt (root w s) (epsilon w)) → Small w x
  kept x s u t = elim (component x (large w) u.finite_x tt) [
    | inl v ↦ widen x (neg (large w)) (large w) (neg (small w)) (small w) k.below.0 k.below.1 v
    | inr h ↦ absurd (lt→nle (root w s) (epsilon w) t (le_tr (epsilon w) (large w) (root w s) k.below.3 (large_norm s u.fits_s (u.large_s h))))
  ]

  -- ---- else it is divided by the norm
  divided : (x s : Float) → Under w x s → T (not (lt (root w s) (epsilon w))) → Small w (div w x (root w s))
  divided x nan u t = absurd (le→number nought nan u.from_s).1
  divided x (inf true) u t = unfold le in absurd u.from_s
  divided nan (inf false) u t = absurd u.finite_x
  divided (inf s) (inf false) u t = absurd u.finite_x
  divided (fin s m e) (inf false) u t = unfold root in over_infinity w s m e
  divided x (fin s m e) u t = elim (component x (large w) u.finite_x tt) [
    | inl v ↦ near v (nlt→le n (epsilon w) (le→number nought n around.0).1 k.below.2 t, around.1)
    | inr h ↦ elim (component x (largest w) u.finite_x tt) [
      | inl v ↦ far v (large_norm (fin s m e) u.fits_s (u.large_s h), around.1)
      | inr l ↦ unfold le in absurd (u.largest_s l)
    ]
  ]
    where
      n : Float
      n = root w (fin s m e)

      around : Within n nought (largest w)
      around = root_within w (fin s m e) u.fits_s tt u.from_s

      near : Sized w (large w) x → Within n (epsilon w) (largest w) → Small w (div w x n)
      near v b = bounded w (divided' w (large w) (epsilon w) x n v b) (div' (var 0) (var 1)) _ _ (k.near x n v b)

      far : Sized w (largest w) x → Within n (large w) (largest w) → Small w (div w x n)
      far v b = bounded w (divided' w (largest w) (large w) x n v b) (div' (var 0) (var 1)) _ _ (k.far x n v b)

  abbrev norm_of : Quaternion → Float
  norm_of q = root w (squares w q)

  abbrev over : Quaternion → Float → Quaternion
  over q n = quaternion (div w q.0 n) (div w q.1 n) (div w q.2 n) (div w q.3 n)

  -- what is finite before is small after
  pub normalize_small : (q : Quaternion) → T (finite q) → AllSmall w (normalize w q)
  unfolding normalize norm
  normalize_small q h =
      let n = norm_of q in
      let u = all_under q (each_finite q h) in
      chosen (AllSmall w) (lt n (epsilon w)) q (over q n)
      (λ t. (kept _ _ u.0 t, kept _ _ u.1 t, kept _ _ u.2 t, kept _ _ u.3 t))
      (λ t. (divided _ _ u.0 t, divided _ _ u.1 t, divided _ _ u.2 t, divided _ _ u.3 t))

  finite_before : (q : Quaternion) → T (finite (normalize w q)) → T (finite q)
  unfolding normalize norm finite
  finite_before q =
      let n = norm_of q in
      let of : (x : Float) → Finite (div w x n) → Finite x = λ x. numerator_finite w x n in
      keeps (λ (r : Quaternion). T (finite r) → T (finite q)) (lt n (epsilon w)) q (over q n) (λ _ h. h)
      (λ h.
      let r = simp both at h in
      simp both (((of _ r.0.0.0, of _ r.0.0.1), of _ r.0.1), of _ r.1))

  pub normalized_small : (q : Quaternion) → T (finite (normalize w q)) → AllSmall w (normalize w q)
  normalized_small q h = normalize_small q (finite_before q h)

  -- ---- what is so bounded is finite, the product of two such too, and that product turned by a heading
  sized_finite : (e : ℕ) (q : Quaternion) → Each (Sized w (power e)) q → T (finite q)
  unfolding finite neg
  sized_finite e q a =
      let one : (x : Float) → Sized w (power e) x → Finite x = λ x. within_finite x _ _ tt tt in
      simp both (((one _ a.0, one _ a.1), one _ a.2), one _ a.3)

  pub small_finite : (q : Quaternion) → AllSmall w q → T (finite q)
  small_finite = sized_finite _

  pub times_within : (p q : Quaternion) → AllSmall w p → AllSmall w q → AllProducts w (times w p q)
  unfolding times
  times_within p q a b =
      let f = four w (small w) p a (four w (small w) q b none) in
      let c = k.products p q a b in
      let within : (e : Expr) → Inside w f e (product w) → Sized w (product w) (eval w f e) = λ e. bounded w f e _ _ in
      (within _ c.0, within _ c.1, within _ c.2, within _ c.3)

  pub times_finite : (p q : Quaternion) → AllSmall w p → AllSmall w q → T (finite (times w p q))
  times_finite p q a b = sized_finite _ _ (times_within p q a b)

  pub apply_delta_finite : (q : Quaternion) (delta : Float) → AllProducts w q → Sized w (pi w) delta → T (finite (apply_delta w q delta))
  unfolding apply_delta finite
  apply_delta_finite q delta t d =
      let half = div w delta (two w) in
      let served = bounded w (known delta (neg (pi w)) (pi w) d none) (div' (var 0) (lit (two w))) (neg ANGLE_LIMIT) ANGLE_LIMIT (k.served delta d) in
      let u = (ranges w).cos.within half served in
      let v = (ranges w).sin.within half served in
      let f = turned w (cos w half) (sin w half) q u v t in
      let c = k.turned_finite (cos w half) (sin w half) q u v t in
      simp both (((is_finite w f _ c.0, is_finite w f _ c.1), is_finite w f _ c.2), is_finite w f _ c.3)
