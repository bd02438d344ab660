-- The order of roots: the root grows with its argument, and lies below a value whose square is out of the format's range.
-- Both are read off `Nearest`, which counts in units; a value of the format is a whole number of them.
use Rattle.floats.specs.Prelude.{◌≡◌, refl, sym, ap, ◌∙◌, ℕ, zero, suc, ◌+◌, ◌-◌, ◌*◌, ◌/◌, ◌^◌, ◌≤◌, ◌<◌, zero-mul, one-mul, mul-one, mul_assoc, mul-pos, mul-le-mul, mul-le-mul_right, mul-div_cancel, le_trans, le_of_eq, le_of_suc-le-suc, lt_of_not-le, zero-lt-suc, arith, true, false, ℤ, pos, negsuc, T, lit≤, eqb→eq, lt→ltb, pow-add, pow_pos, Float, nan, inf, fin, Format, binary32, binary64, emax, low, up, down, fits, le, back, up_pos, down_pos, HasValue, positive, values_of_le, finite}
use lib.Ieee.Order.{le_of_values}
use Rattle.floats.specs.Fractions.{le→ord}
use Rattle.floats.specs.Order.{nought, le_tr, le_rf, le→number, Within, within_finite}
use Rattle.floats.specs.Rounding.{zeros}
use Rattle.floats.specs.Quotients.{positive_up}
use Rattle.floats.proofs.Kept.{fine, fewer}
use Rattle.numbers.specs.Root.{count, square, Value, root}
use Rattle.numbers.proofs.RootLaws.{root_nearest, square_count, square_lt}

-- ---- a value of f is `count` of its units
-- the denominator of a value of f divides 2 ^ low
divides : (e : ℤ) (l : ℕ) → down e ≤ 2 ^ l → (c : ℕ) × (2 ^ l ≡ c * down e)
divides (pos a) l h = (2 ^ l, sym (mul-one (2 ^ l)))
divides (negsuc a) l h =
    (2 ^ (l - suc a), ap (λ (x : ℕ). 2 ^ x) (sym (back l (suc a) (fewer (suc a) l h))) ∙ pow-add 2 (l - suc a) (suc a))

whole : (a d c b : ℕ) → 0 < d → b ≡ c * d → a * b ≡ a * b / d * d
whole a d c b D h =
    let u : a * b ≡ a * c * d = ap (λ (x : ℕ). a * x) h ∙ sym (mul_assoc a c d) in
    u ∙ ap (λ (x : ℕ). x * d) (sym (mul-div_cancel (a * c) D)) ∙ ap (λ (x : ℕ). x / d * d) (sym u)

fits_down : (f : Format) (m : ℕ) (e : ℤ) → T (fits f (fin false m e)) → down e ≤ 2 ^ low f
unfolding fits
fits_down f zero e h =
    let a : up e * down e ≡ 1 = eqb→eq (up e * down e) 1 h in
    le_trans (le_trans (le_of_eq (sym (one-mul (down e)))) (mul-le-mul_right (down e) (up_pos e))) (le_trans (le_of_eq a) (pow_pos (low f)))
fits_down f (suc m) e h = (fine f false m e h).unit

counted : (f : Format) (y : Float) → Value f y → HasValue y false (count f y) (2 ^ low f)
unfolding count
counted f nan v = absurd v
counted f (inf s) v = absurd v
counted f (fin true m e) v = absurd v
counted f (fin false m e) v =
    let d = divides e (low f) (fits_down f m e v) in
    (refl, whole (m * up e) (down e) d.0 (2 ^ low f) (down_pos e) d.1)

positive_value : (f : Format) (x : Float) → T (fits f x) → T (positive x) → Value f x
positive_value f nan h p = absurd p
positive_value f (inf s) h p = absurd p
positive_value f (fin true m e) h p = absurd p
positive_value f (fin false m e) h p = h

by_count : (f : Format) (x y : Float) → Value f x → Value f y → count f x ≤ count f y → T (le x y)
by_count f x y v w h = le_of_values x y (count f x) (2 ^ low f) (count f y) (2 ^ low f) (pow_pos (low f)) (pow_pos (low f)) (counted f x v) (counted f y w) (mul-le-mul_right (2 ^ low f) h)

from_nought : (f : Format) (y : Float) → Value f y → T (le nought y)
from_nought f y v = le_of_values nought y 0 1 (count f y) (2 ^ low f) (pow_pos 0) (pow_pos (low f)) (refl, refl) (counted f y v) (omega arith)

-- ---- the root grows
pub root_grows : (f : Format) (x y : Float) → T (fits f x) → T (fits f y) → T (positive x) → T (positive y) → T (le x y) → T (le (root f x) (root f y))
root_grows f x y u v p q h =
    let a = root_nearest f x u p in
    let b = root_nearest f y v q in
    by_count f (root f x) (root f y) a.value b.value
    (le_of_suc-le-suc (lt_of_not-le (λ (g : suc (count f (root f y)) ≤ count f (root f x)). crossed (count f (root f x)) (count f (root f y)) (square f x) (square f y) squares (a.above (root f y) b.value g) (b.below (root f x) a.value g))))
  where
    squares : square f x ≤ square f y
    squares = rw (square_count f x, square_count f y) (values_of_le x y (count f x) (2 ^ low f) (count f y) (2 ^ low f) p q (counted f x (positive_value f x u p)) (counted f y (positive_value f y v q)) h)

    crossed : (r t X Y : ℕ) → X ≤ Y → (t + r) * (t + r) < 4 * X → 4 * Y < (r + t) * (r + t) → ⊥
    crossed r t X Y g m n = omega arith

-- ---- the root is far below the largest value
-- 2 ^ 64 and 2 ^ 512
abbrev pub half_range : Format → ℕ
half_range binary32 = 64
half_range binary64 = 512

abbrev pub root_limit : Format → Float
root_limit f = fin false 1 (pos (half_range f))

-- its square is out of the format's range
limit_beyond : (f : Format) → Value f (root_limit f) × (2 ^ (low f + suc (emax f) + low f) ≤ count f (root_limit f) * count f (root_limit f))
unfolding fits count
limit_beyond binary32 = (tt, lit≤ tt)
limit_beyond binary64 = (tt, lit≤ tt)

not_negative : (m : ℕ) (e : ℤ) → T (le nought (fin true (suc m) e)) → ⊥
not_negative m e h =
    let a = le→ord nought (fin true (suc m) e) tt tt h in
    let k : 0 < suc m * up e = mul-pos (zero-lt-suc m) (up_pos e) in
    omega arith

pub root_within : (f : Format) (x : Float) → T (fits f x) → T (finite x) → T (le nought x) → Within (root f x) nought (root_limit f)
root_within f nan u p h = absurd p
root_within f (inf s) u p h = absurd p
root_within f (fin s zero e) u p h =
    let x = fin s zero e in
    let z = zero-mul (up e) in
    unfold root in (zeros nought x (tt, refl) (tt, z), le_tr x nought (root_limit f) (zeros x nought (tt, z) (tt, refl)) (from_nought f (root_limit f) (limit_beyond f).0))
root_within f (fin true (suc m) e) u p h = absurd (not_negative m e h)
root_within f (fin false (suc m) e) u p h =
    let c = root_limit f in
    let b = limit_beyond f in
    let x = fin false (suc m) e in
    let r = root f x in
    let n = root_nearest f x u (lt→ltb 0 (suc m) (zero-lt-suc m)) in (
      from_nought f r n.value,
      by_count f r c n.value b.0 (le_of_suc-le-suc (lt_of_not-le (λ (g : suc (count f c) ≤ count f r). too_far (count f c) (count f r) (square f x) (2 ^ (low f + suc (emax f) + low f)) g (n.above c b.0 g) (square_lt f false m e u) b.1))),
    )
  where
    too_far : (c r X M : ℕ) → c < r → (c + r) * (c + r) < 4 * X → X < M → M ≤ c * c → ⊥
    too_far c r X M g h k l =
        let d : 2 * c ≤ c + r = omega arith in
        let e : 2 * c * (2 * c) ≤ (c + r) * (c + r) = mul-le-mul d d in
        omega arith

-- ---- from zero on it grows too
pub root_up_to : (f : Format) (x y : Float) → T (fits f x) → T (fits f y) → T (finite y) → Within x nought y → Within (root f x) nought (root f y)
root_up_to f x y u v q h = let p = within_finite x nought y tt q h in ((root_within f x u p h.0).0, up_to x u p h)
  where
    up_to : (x : Float) → T (fits f x) → T (finite x) → Within x nought y → T (le (root f x) (root f y))
    up_to nan u p h = absurd p
    up_to (inf s) u p h = absurd p
    up_to (fin s zero e) u p h = unfold root in le_tr (fin s zero e) nought (root f y) (zeros (fin s zero e) nought (tt, zero-mul (up e)) (tt, refl)) (root_within f y v q (le_tr nought (fin s zero e) y h.0 h.1)).0
    up_to (fin true (suc m) e) u p h = absurd (not_negative m e h.0)
    up_to (fin false (suc m) e) u p h =
        let x = fin false (suc m) e in
        let positive_x = lt→ltb 0 (suc m) (zero-lt-suc m) in
        root_grows f x y u v positive_x (positive_up y x y positive_x q (h.1, le_rf y (le→number x y h.1).1)) h.1
