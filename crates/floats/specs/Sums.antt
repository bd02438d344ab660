-- Sums and differences grow with what is added, rounding included, and so take intervals to intervals.
use Rattle.std.specs.Prelude.{ℕ, ◌+◌, ◌*◌, ◌≤◌, ◌<◌, T, Float}
use Rattle.std.proofs.Common.{add-mul, mul-le-mul_right, mul-pos, arith}
use Rattle.std.specs.Float.{Format}
use Rattle.std.specs.Float.Ieee.{add, sub, neg, le}
use Rattle.std.specs.Float.Ieee.Scale.{finite}
use Rattle.std.specs.Float.Ieee.Positive.{den, den_pos}
use Rattle.floats.specs.Fractions.{plus, less, Ord, le→ord, ac}
use Rattle.floats.specs.Order.{Within, within_finite, neg_finite, neg_le}
use Rattle.floats.specs.Rounding.{rnd_mono, add_rnd}

-- ---- addition and subtraction grow with each argument
pub dens : (x y : Float) → 0 < den x * den y
dens x y = mul-pos (den_pos x) (den_pos y)

ord_add : (p n c p' n' c' q m d q' m' d' : ℕ) → Ord p n c p' n' c' → Ord q m d q' m' d' → Ord (p * d + q * c) (n * d + m * c) (c * d) (p' * d' + q' * c') (n' * d' + m' * c') (c' * d')
ord_add p n c p' n' c' q m d q' m' d' h k =
    let a : p * d * (c' * d') + n' * d' * (c * d) ≤ p' * d' * (c * d) + n * d * (c' * d') = simp ac (simp ac at (mul-le-mul_right (d * d') h)) in
    let b : q * c * (c' * d') + m' * c' * (c * d) ≤ q' * c' * (c * d) + m * c * (c' * d') = simp ac (simp ac at (mul-le-mul_right (c * c') k)) in
    simp add-mul (omega arith)

pub add_mono : (f : Format) (x x' y y' : Float) → T (finite x) → T (finite x') → T (finite y) → T (finite y') → T (le x x') → T (le y y') → T (le (add f x y) (add f x' y'))
add_mono f x x' y y' p p' q q' h k =
    rnd_mono f (add f x y) (add f x' y') _ _ (den x * den y) _ _ (den x' * den y') (dens x y) (dens x' y') (add_rnd f x y p q) (add_rnd f x' y' p' q')
    (ord_add (plus x) (less x) (den x) (plus x') (less x') (den x') (plus y) (less y) (den y) (plus y') (less y') (den y') (le→ord x x' p p' h) (le→ord y y' q q' k))

pub sub_mono : (f : Format) (x x' y y' : Float) → T (finite x) → T (finite x') → T (finite y) → T (finite y') → T (le x x') → T (le y' y) → T (le (sub f x y) (sub f x' y'))
unfolding sub
sub_mono f x x' y y' p p' q q' h k = add_mono f x x' (neg y) (neg y') p p' (neg_finite y q) (neg_finite y' q') h (neg_le y' y k)

pub add_within : (f : Format) (x y a b c d : Float) → T (finite a) → T (finite b) → T (finite c) → T (finite d) → Within x a b → Within y c d → Within (add f x y) (add f a c) (add f b d)
add_within f x y a b c d A B C D v w =
    let p = within_finite x a b A B v in
    let q = within_finite y c d C D w in
    (add_mono f a x c y A p C q v.0 w.0, add_mono f x b y d p B q D v.1 w.1)

pub sub_within : (f : Format) (x y a b c d : Float) → T (finite a) → T (finite b) → T (finite c) → T (finite d) → Within x a b → Within y c d → Within (sub f x y) (sub f a d) (sub f b c)
sub_within f x y a b c d A B C D v w =
    let p = within_finite x a b A B v in
    let q = within_finite y c d C D w in
    (sub_mono f a x d y A p D q v.0 w.1, sub_mono f x b y c p B q C v.1 w.0)
