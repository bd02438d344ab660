-- A product lies between those of the ends of its factors' intervals, rounding included; a square is not negative.
use Rattle.std.specs.Prelude.{◌≡◌, refl, ◌⊎◌, ℕ, ◌+◌, ◌-◌, ◌*◌, ◌≤◌, Bool, true, false, not, cond, T, eqb, Float}
use Rattle.std.proofs.Common.{ap, ◌∙◌, inl, inr, zero-mul, mul-zero, mul_comm, mul-le-mul_right, mul-le-mul_left, arith, pow_pos}
use Rattle.std.specs.Float.{nan, inf, fin, Format}
use Rattle.std.specs.Float.Ieee.{up, down, round, mul, lt, le, unlike}
use Rattle.std.specs.Float.Ieee.Scale.{finite}
use Rattle.std.specs.Float.Ieee.Positive.{num, den}
use Rattle.floats.specs.Fractions.{pl, mi, sign, plus, less, Ord, le→ord, expand, ac}
use Rattle.floats.specs.Order.{nought, number, le_tr, lt→le, nlt→le, Within, within_finite}
use Rattle.floats.specs.Rounding.{zero_value, value_zero, zeros, Rnd, apart, rnd_mono, rnd_at, round_rnd}
use Rattle.floats.specs.Sums.{dens}

-- ---- products
pl_unlike : (s t : Bool) (a b : ℕ) → pl (unlike s t) (a * b) ≡ pl s a * pl t b + mi s a * mi t b
pl_unlike false false a b = omega arith
pl_unlike false true a b = omega (arith, mul-zero a, zero-mul b)
pl_unlike true false a b = omega (arith, mul-zero a, zero-mul b)
pl_unlike true true a b = omega arith

mi_unlike : (s t : Bool) (a b : ℕ) → mi (unlike s t) (a * b) ≡ pl s a * mi t b + mi s a * pl t b
mi_unlike false false a b = omega (arith, mul-zero a, zero-mul b)
mi_unlike false true a b = omega arith
mi_unlike true false a b = omega arith
mi_unlike true true a b = omega (arith, mul-zero a, zero-mul b)

pub mul_rnd : (f : Format) (x y : Float) → T (finite x) → T (finite y) → Rnd f (mul f x y) (plus x * plus y + less x * less y) (plus x * less y + less x * plus y) (den x * den y)
mul_rnd f nan y p q = absurd p
mul_rnd f (inf s) y p q = absurd p
mul_rnd f (fin s m e) nan p q = absurd q
mul_rnd f (fin s m e) (inf t) p q = absurd q
mul_rnd f (fin s m e) (fin t n d) p q =
    rnd_at f (mul f (fin s m e) (fin t n d)) _ _ _ _ (down e * down d) (pl_unlike s t (m * up e) (n * up d)) (mi_unlike s t (m * up e) (n * up d))
    (unfold mul in round_rnd f (unlike s t) (m * up e * (n * up d)) (down e * down d))

-- u ≤ v and n ≤ p: u p + v n ≤ v p + u n
pub rearrange : (u v n p : ℕ) → u ≤ v → n ≤ p → u * p + v * n ≤ v * p + u * n
rearrange u v n p h k = omega (arith, mul-le-mul_left (v - u) k, apart v u n, apart v u p, expand u v n h, expand u v p h)

-- times y = (q - m) / d for m ≤ q
ord_mul : (p n c p' n' c' q m d : ℕ) → m ≤ q → Ord p n c p' n' c' → Ord (p * q + n * m) (p * m + n * q) (c * d) (p' * q + n' * m) (p' * m + n' * q) (c' * d)
ord_mul p n c p' n' c' q m d g h =
    let b = simp ac at (mul-le-mul_right d (rearrange (p * c' + n' * c) (p' * c + n * c') m q h g)) in
    simp ac (omega arith)

-- for q ≤ m it is the other way round
ord_mul_anti : (p n c p' n' c' q m d : ℕ) → q ≤ m → Ord p n c p' n' c' → Ord (p' * q + n' * m) (p' * m + n' * q) (c' * d) (p * q + n * m) (p * m + n * q) (c * d)
ord_mul_anti p n c p' n' c' q m d g h =
    let b = simp ac at (mul-le-mul_right d (rearrange (p * c' + n' * c) (p' * c + n * c') q m h g)) in
    simp ac (omega arith)

pub from_nought : (y : Float) → T (finite y) → T (le nought y) → less y ≤ plus y
from_nought y q h = let a = le→ord nought y tt q h in omega arith

pub to_nought : (y : Float) → T (finite y) → T (le y nought) → plus y ≤ less y
to_nought y q h = let a = le→ord y nought q tt h in omega arith

pub mul_mono : (f : Format) (x x' y : Float) → T (finite x) → T (finite x') → T (finite y) → T (le nought y) → T (le x x') → T (le (mul f x y) (mul f x' y))
mul_mono f x x' y p p' q g h =
    rnd_mono f (mul f x y) (mul f x' y) _ _ (den x * den y) _ _ (den x' * den y) (dens x y) (dens x' y) (mul_rnd f x y p q) (mul_rnd f x' y p' q)
    (ord_mul (plus x) (less x) (den x) (plus x') (less x') (den x') (plus y) (less y) (den y) (from_nought y q g) (le→ord x x' p p' h))

pub mul_anti : (f : Format) (x x' y : Float) → T (finite x) → T (finite x') → T (finite y) → T (le y nought) → T (le x x') → T (le (mul f x' y) (mul f x y))
mul_anti f x x' y p p' q g h =
    rnd_mono f (mul f x' y) (mul f x y) _ _ (den x' * den y) _ _ (den x * den y) (dens x' y) (dens x y) (mul_rnd f x' y p' q) (mul_rnd f x y p q)
    (ord_mul_anti (plus x) (less x) (den x) (plus x') (less x') (den x') (plus y) (less y) (den y) (to_nought y q g) (le→ord x x' p p' h))

unlike_sym : (s t : Bool) → unlike s t ≡ unlike t s
unlike_sym true true = refl
unlike_sym true false = refl
unlike_sym false true = refl
unlike_sym false false = refl

pub mul_sym : (f : Format) (x y : Float) → mul f x y ≡ mul f y x
unfolding mul
mul_sym f nan nan = refl
mul_sym f nan (inf t) = refl
mul_sym f nan (fin t n d) = refl
mul_sym f (inf s) nan = refl
mul_sym f (inf s) (inf t) = ap inf (unlike_sym s t)
mul_sym f (inf s) (fin t n d) = ap (λ (u : Bool). cond (eqb n 0) nan (inf u)) (unlike_sym s t)
mul_sym f (fin s m e) nan = refl
mul_sym f (fin s m e) (inf t) = ap (λ (u : Bool). cond (eqb m 0) nan (inf u)) (unlike_sym s t)
mul_sym f (fin s m e) (fin t n d) =
    ap (λ (u : Bool). round f u (m * up e * (n * up d)) (down e * down d)) (unlike_sym s t)
    ∙ ap (λ (u : ℕ). round f (unlike t s) u (down e * down d)) (mul_comm (m * up e) (n * up d))
    ∙ ap (λ (u : ℕ). round f (unlike t s) (n * up d * (m * up e)) u) (mul_comm (down e) (down d))

pub finite_number : (x : Float) → T (finite x) → T (number x)
finite_number nan p = absurd p
finite_number (inf s) p = tt
finite_number (fin s m e) p = tt

-- a finite value is at least zero or at most zero
pub either_side : (x : Float) → T (finite x) → T (le nought x) ⊎ T (le x nought)
either_side x p = go (lt x nought) (nlt→le x nought (finite_number x p) tt) (lt→le x nought)
  where
    go : (b : Bool) → (T (not b) → T (le nought x)) → (T b → T (le x nought)) → T (le nought x) ⊎ T (le x nought)
    go true u v = inr (v tt)
    go false u v = inl (u tt)

-- with y held, a product lies between those of the ends
mul_side : (f : Format) (x y a b lo hi : Float) → T (finite a) → T (finite b) → T (finite y) → Within x a b → Within (mul f a y) lo hi → Within (mul f b y) lo hi → Within (mul f x y) lo hi
mul_side f x y a b lo hi A B q v s t =
    let p = within_finite x a b A B v in
    elim (either_side y q) [
      | inl g ↦ (le_tr lo (mul f a y) (mul f x y) s.0 (mul_mono f a x y A p q g v.0), le_tr (mul f x y) (mul f b y) hi (mul_mono f x b y p B q g v.1) t.1)
      | inr g ↦ (le_tr lo (mul f b y) (mul f x y) t.0 (mul_anti f x b y p B q g v.1), le_tr (mul f x y) (mul f a y) hi (mul_anti f a x y A p q g v.0) s.1)
    ]

-- the product lies between any bounds of its four corners
pub mul_within : (f : Format) (x y a b c d lo hi : Float) → T (finite a) → T (finite b) → T (finite c) → T (finite d) → Within x a b → Within y c d
    → Within (mul f a c) lo hi → Within (mul f a d) lo hi → Within (mul f b c) lo hi → Within (mul f b d) lo hi → Within (mul f x y) lo hi
mul_within f x y a b c d lo hi A B C D v w ac' ad bc bd =
    let q = within_finite y c d C D w in
    mul_side f x y a b lo hi A B q v (row a A ac' ad) (row b B bc bd)
  where
    row : (e : Float) → T (finite e) → Within (mul f e c) lo hi → Within (mul f e d) lo hi → Within (mul f e y) lo hi
    row e E s t = rw (mul_sym f e y) (mul_side f y e c d lo hi C D E w (rw (mul_sym f e c) at s) (rw (mul_sym f e d) at t))

-- ---- a square is not negative
nought_rnd : (f : Format) → Rnd f (round f false 0 1) 0 0 1
nought_rnd f = round_rnd f false 0 1

zero_one : (f : Format) → T (le nought (round f false 0 1))
zero_one f = zeros nought (round f false 0 1) (tt, refl) (value_zero (round f false 0 1) false 1 (pow_pos 0) (zero_value f false 1 (pow_pos 0)))

pub square_from : (f : Format) (x : Float) → T (finite x) → T (le nought (mul f x x))
square_from f x p =
    le_tr nought (round f false 0 1) (mul f x x) (zero_one f)
    (rnd_mono f (round f false 0 1) (mul f x x) 0 0 1 _ _ (den x * den x) (pow_pos 0) (dens x x) (nought_rnd f) (mul_rnd f x x p p)
    (let h = one_side (sign x) (num x) in omega arith))
  where
    one_side : (s : Bool) (a : ℕ) → pl s a * mi s a + mi s a * pl s a ≤ pl s a * pl s a + mi s a * mi s a
    one_side true a = omega (arith, zero-mul a, mul-zero a)
    one_side false a = omega (arith, zero-mul a, mul-zero a)
