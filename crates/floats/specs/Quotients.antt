-- A quotient by what is above zero lies between those of the ends of the two intervals, rounding included.
use Rattle.std.specs.Prelude.{◌≡◌, refl, ℕ, ◌*◌, ◌≤◌, ◌<◌, Bool, true, false, cond, T, eqb, Float}
use Rattle.std.proofs.Common.{sym, ap, ◌∙◌, subst, inl, inr, mul-le-mul_right, mul-pos, arith, eqb→eq, ltb→lt}
use Rattle.std.specs.Float.{nan, inf, fin, Format}
use Rattle.std.specs.Float.Ieee.{up, down, round, div, le, unlike}
use Rattle.std.specs.Float.Ieee.Fits.{up_pos}
use Rattle.std.specs.Float.Ieee.Scale.{finite}
use Rattle.std.specs.Float.Ieee.Positive.{num, den, den_pos, positive, positive-finite, le→cross, above, above_of_le}
use Rattle.floats.specs.Fractions.{pl, mi, sign, plus, less, Ord, pl_mul, mi_mul, le→ord, ac}
use Rattle.floats.specs.Order.{nought, le_tr, le_rf, Within, within_finite}
use Rattle.floats.specs.Rounding.{Rnd, rnd_mono, rnd_at, round_rnd}
use Rattle.floats.specs.Products.{rearrange, from_nought, to_nought, finite_number, either_side}

-- ---- quotients by what is above zero
nz : (n : ℕ) → 0 < n → eqb n 0 ≡ false
nz n h = go (eqb n 0) (eqb→eq n 0)
  where
    go : (b : Bool) → (T b → n ≡ 0) → b ≡ false
    go true k = let e : n ≡ 0 = k tt in let u : ⊥ = omega arith in absurd u
    go false k = refl

pub num_pos : (y : Float) → T (positive y) → 0 < num y
num_pos nan p = absurd p
num_pos (inf s) p = absurd p
num_pos (fin true m e) p = absurd p
num_pos (fin false m e) p = mul-pos (ltb→lt 0 m p) (up_pos e)

like : (s : Bool) → unlike s false ≡ s
like true = refl
like false = refl

pub div_is : (f : Format) (x y : Float) → T (finite x) → T (positive y) → div f x y ≡ round f (sign x) (num x * den y) (num y * den x)
unfolding div
div_is f nan y p q = absurd p
div_is f (inf s) y p q = absurd p
div_is f (fin s m e) nan p q = absurd q
div_is f (fin s m e) (inf t) p q = absurd q
div_is f (fin s m e) (fin true n d) p q = absurd q
div_is f (fin s m e) (fin false n d) p q =
    ap (λ (b : Bool). cond b (cond (eqb m 0) nan (inf (unlike s false))) (round f (unlike s false) (m * up e * down d) (n * up d * down e))) (nz n (ltb→lt 0 n q))
    ∙ ap (λ (b : Bool). round f b (m * up e * down d) (n * up d * down e)) (like s)

pub div_rnd : (f : Format) (x y : Float) → T (finite x) → T (positive y) → Rnd f (div f x y) (plus x * den y) (less x * den y) (num y * den x)
div_rnd f x y p q =
    rnd_at f (div f x y) _ _ _ _ (num y * den x) (pl_mul (sign x) (num x) (den y)) (mi_mul (sign x) (num x) (den y))
    (subst (λ (z : Float). Rnd f z (pl (sign x) (num x * den y)) (mi (sign x) (num x * den y)) (num y * den x)) (sym (div_is f x y p q)) (round_rnd f (sign x) (num x * den y) (num y * den x)))

pub divs : (x y : Float) → T (positive y) → 0 < num y * den x
divs x y q = mul-pos (num_pos y q) (den_pos x)

ord_div : (p n c p' n' c' q d : ℕ) → Ord p n c p' n' c' → Ord (p * d) (n * d) (q * c) (p' * d) (n' * d) (q * c')
ord_div p n c p' n' c' q d h =
    let b = simp ac at (mul-le-mul_right (d * q) h) in
    simp ac (omega arith)

pub div_mono : (f : Format) (x x' y : Float) → T (finite x) → T (finite x') → T (positive y) → T (le x x') → T (le (div f x y) (div f x' y))
div_mono f x x' y p p' q h =
    rnd_mono f (div f x y) (div f x' y) _ _ (num y * den x) _ _ (num y * den x') (divs x y q) (divs x' y q) (div_rnd f x y p q) (div_rnd f x' y p' q)
    (ord_div (plus x) (less x) (den x) (plus x') (less x') (den x') (num y) (den y) (le→ord x x' p p' h))

-- (p - n) / c over q' / d', and over the smaller q / d
ord_over : (p n c q d q' d' : ℕ) → n ≤ p → q * d' ≤ q' * d → Ord (p * d') (n * d') (q' * c) (p * d) (n * d) (q * c)
ord_over p n c q d q' d' g h =
    let b = simp ac at (mul-le-mul_right c (rearrange (q * d') (q' * d) n p h g)) in
    simp ac (omega arith)

ord_over' : (p n c q d q' d' : ℕ) → p ≤ n → q * d' ≤ q' * d → Ord (p * d) (n * d) (q * c) (p * d') (n * d') (q' * c)
ord_over' p n c q d q' d' g h =
    let b = simp ac at (mul-le-mul_right c (rearrange (q * d') (q' * d) p n h g)) in
    simp ac (omega arith)

pub div_anti : (f : Format) (x y y' : Float) → T (finite x) → T (positive y) → T (positive y') → T (le nought x) → T (le y y') → T (le (div f x y') (div f x y))
div_anti f x y y' p q q' g h =
    rnd_mono f (div f x y') (div f x y) _ _ (num y' * den x) _ _ (num y * den x) (divs x y' q') (divs x y q) (div_rnd f x y' p q') (div_rnd f x y p q)
    (ord_over (plus x) (less x) (den x) (num y) (den y) (num y') (den y') (from_nought x p g) (le→cross y y' q q' h))

pub div_grow : (f : Format) (x y y' : Float) → T (finite x) → T (positive y) → T (positive y') → T (le x nought) → T (le y y') → T (le (div f x y) (div f x y'))
div_grow f x y y' p q q' g h =
    rnd_mono f (div f x y) (div f x y') _ _ (num y * den x) _ _ (num y' * den x) (divs x y q) (divs x y' q') (div_rnd f x y p q) (div_rnd f x y' p q')
    (ord_over' (plus x) (less x) (den x) (num y) (den y) (num y') (den y') (to_nought x p g) (le→cross y y' q q' h))

pub positive_up : (y c d : Float) → T (positive c) → T (finite d) → Within y c d → T (positive y)
positive_up y c d C D w = up_of y (above_of_le c y C w.0) (within_finite y c d (positive-finite c C) D w)
  where
    up_of : (y : Float) → T (above y) → T (finite y) → T (positive y)
    up_of nan a p = absurd p
    up_of (inf s) a p = absurd p
    up_of (fin true m e) a p = absurd a
    up_of (fin false m e) a p = a

-- the quotient lies between any bounds of its four corners
pub div_within : (f : Format) (x y a b c d lo hi : Float) → T (finite a) → T (finite b) → T (positive c) → T (finite d) → Within x a b → Within y c d
    → Within (div f a c) lo hi → Within (div f a d) lo hi → Within (div f b c) lo hi → Within (div f b d) lo hi → Within (div f x y) lo hi
div_within f x y a b c d lo hi A B C D v w ac' ad bc bd =
    (le_tr lo (div f a y) (div f x y) (row a A ac' ad).0 (div_mono f a x y A p q v.0), le_tr (div f x y) (div f b y) hi (div_mono f x b y p B q v.1) (row b B bc bd).1)
  where
    p : T (finite x)
    p = within_finite x a b A B v

    q : T (positive y)
    q = positive_up y c d C D w

    top : T (positive d)
    top = positive_up d c d C D (le_tr c y d w.0 w.1, le_rf d (finite_number d D))

    row : (e : Float) → T (finite e) → Within (div f e c) lo hi → Within (div f e d) lo hi → Within (div f e y) lo hi
    row e E s t = elim (either_side e E) [
      | inl g ↦ (le_tr lo (div f e d) (div f e y) t.0 (div_anti f e y d E q top g w.1), le_tr (div f e y) (div f e c) hi (div_anti f e c y E C q g w.0) s.1)
      | inr g ↦ (le_tr lo (div f e c) (div f e y) s.0 (div_grow f e c y E C q g w.0), le_tr (div f e y) (div f e d) hi (div_grow f e y d E q top g w.1) t.1)
    ]
