-- What is at least zero, infinities included: squares, magnitudes and their sums. Such sums grow with each part, and a square with the magnitude.
use Rattle.floats.specs.Prelude.{◌≡◌, refl, ◌⊎◌, inl, inr, ℕ, ◌*◌, arith, Bool, true, false, not, ℤ, T, Float, nan, inf, fin, Format, binary32, binary64, up, down, add, mul, div, neg, lt, eq, le, of_bits, finite}
use Rattle.floats.specs.Notation.{zero}
use Rattle.floats.specs.Definitions.{magnitude, larger, smaller}
use Rattle.floats.specs.Tests.{keeps}
use Rattle.floats.specs.Fractions.{signed→le}
use Rattle.floats.specs.Order.{nought, number, le_tr, le_rf, lt→le, nlt→le, le→number, Within, within_finite, neg_le}
use Rattle.floats.specs.Sums.{add_mono}
use Rattle.floats.specs.Products.{mul_mono, mul_sym, square_from, finite_number}
use Rattle.floats.proofs.Chosen.{chosen}

-- ---- a NaN, or at least zero
abbrev pub Unsigned : Float → Type 0
Unsigned x = T (number x) → T (le nought x)

pub square_unsigned : (f : Format) (x : Float) → Unsigned (mul f x x)
unfolding mul le
square_unsigned f nan p = absurd p
square_unsigned f (inf true) p = tt
square_unsigned f (inf false) p = tt
square_unsigned f (fin s m e) p = square_from f (fin s m e) tt

no_sum : (f : Format) → T (le nought (add f nought nought))
unfolding add mul
no_sum f = square_from f nought tt

pub sum_unsigned : (f : Format) (x y : Float) → Unsigned x → Unsigned y → Unsigned (add f x y)
unfolding le
sum_unsigned f nan y h k p = absurd (unfold add in p)
sum_unsigned f (inf true) y h k p = absurd (h tt)
sum_unsigned f (inf false) nan h k p = absurd (unfold add in p)
sum_unsigned f (inf false) (inf true) h k p = absurd (k tt)
sum_unsigned f (inf false) (inf false) h k p = unfold add in tt
sum_unsigned f (inf false) (fin t n d) h k p = unfold add in tt
sum_unsigned f (fin s m e) nan h k p = absurd (unfold add in p)
sum_unsigned f (fin s m e) (inf true) h k p = absurd (k tt)
sum_unsigned f (fin s m e) (inf false) h k p = unfold add in tt
sum_unsigned f (fin s m e) (fin t n d) h k p =
    le_tr nought (add f nought nought) (add f (fin s m e) (fin t n d)) (no_sum f) (add_mono f nought (fin s m e) nought (fin t n d) tt tt tt tt (h tt) (k tt))

-- ---- sums of what is at least zero
infinite_above : (x : Float) → T (number x) → T (le x (inf false))
unfolding le
infinite_above nan p = absurd p
infinite_above (inf true) p = tt
infinite_above (inf false) p = tt
infinite_above (fin s m e) p = tt

sum_number : (f : Format) (x y : Float) → T (le nought x) → T (le nought y) → T (number (add f x y))
unfolding le
sum_number f nan y h k = absurd h
sum_number f (inf true) y h k = absurd h
sum_number f (inf false) nan h k = absurd k
sum_number f (inf false) (inf true) h k = absurd k
sum_number f (inf false) (inf false) h k = unfold add in tt
sum_number f (inf false) (fin t n d) h k = unfold add in tt
sum_number f (fin s m e) nan h k = absurd k
sum_number f (fin s m e) (inf t) h k = unfold add in tt
sum_number f (fin s m e) (fin t n d) h k =
    let x = fin s m e in
    let y = fin t n d in
    (le→number (add f x y) (add f x y) (add_mono f x x y y tt tt tt tt (le_rf x tt) (le_rf y tt))).0

pub sum_from : (f : Format) (x y : Float) → T (le nought x) → T (le nought y) → T (le nought (add f x y))
sum_from f x y h k = sum_unsigned f x y (λ (_ : _). h) (λ (_ : _). k) (sum_number f x y h k)

pub zero_level : (w : Format) → Within (zero w) nought nought
unfolding le of_bits
zero_level binary32 = (tt, tt)
zero_level binary64 = (tt, tt)

pub zero_from : (w : Format) → T (le (zero w) (zero w))
zero_from w = le_tr (zero w) nought (zero w) (zero_level w).1 (zero_level w).0

pub sum_from_zero : (w : Format) (x y : Float) → T (le (zero w) x) → T (le (zero w) y) → T (le (zero w) (add w x y))
sum_from_zero w x y h k =
    let z = zero_level w in
    le_tr (zero w) nought (add w x y) z.1 (sum_from w x y (le_tr nought (zero w) x z.0 h) (le_tr nought (zero w) y z.0 k))

pub sum_grows : (f : Format) (x x' y y' : Float) → T (le nought x) → T (le x x') → T (le nought y) → T (le y y') → T (le (add f x y) (add f x' y'))
sum_grows f x x' y y' g h i k = go x' y' h k
  where
    most : T (le (add f x y) (inf false))
    most = infinite_above (add f x y) (sum_number f x y g i)

    below_zero : (z : Float) → T (le nought z) → T (le z (inf true)) → ⊥
    below_zero z a b = unfold le in le_tr nought z (inf true) a b

    go : (x' y' : Float) → T (le x x') → T (le y y') → T (le (add f x y) (add f x' y'))
    go nan y' h k = absurd (le→number x nan h).1
    go (inf true) y' h k = absurd (below_zero x g h)
    go (inf false) nan h k = absurd (le→number y nan k).1
    go (inf false) (inf true) h k = absurd (below_zero y i k)
    go (inf false) (inf false) h k = unfold add in most
    go (inf false) (fin t n d) h k = unfold add in most
    go (fin s m e) nan h k = absurd (le→number y nan k).1
    go (fin s m e) (inf true) h k = absurd (below_zero y i k)
    go (fin s m e) (inf false) h k = unfold add in most
    go (fin s m e) (fin t n d) h k =
        add_mono f x (fin s m e) y (fin t n d) (within_finite x nought (fin s m e) tt tt (g, h)) tt (within_finite y nought (fin t n d) tt tt (i, k)) tt h k

-- ---- magnitudes
pub magnitude_finite : (x : Float) → T (finite x) → T (finite (magnitude x))
unfolding magnitude
magnitude_finite nan p = absurd p
magnitude_finite (inf s) p = absurd p
magnitude_finite (fin s m e) p = tt

pub magnitude_from : (x : Float) → T (number x) → T (le nought (magnitude x))
unfolding magnitude
magnitude_from nan p = absurd p
magnitude_from (inf s) p = unfold le in tt
magnitude_from (fin s m e) p = unfold le in signed→le false (0 * down e) false (m * up e * 1) (omega arith)

apart : (m : ℕ) (e : ℤ) → T (le (fin true m e) (fin false m e))
unfolding le
apart m e = signed→le true (m * up e * down e) false (m * up e * down e) (omega arith)

pub magnitude_within : (x c : Float) → T (finite x) → T (le (magnitude x) c) → Within x (neg c) c
unfolding magnitude neg
magnitude_within nan c p h = absurd p
magnitude_within (inf s) c p h = absurd p
magnitude_within (fin true m e) c p h = (neg_le (fin false m e) c h, le_tr (fin true m e) (fin false m e) c (apart m e) h)
magnitude_within (fin false m e) c p h = (le_tr (neg c) (fin true m e) (fin false m e) (neg_le (fin false m e) c h) (apart m e), h)

same_square : (f : Format) (x : Float) → mul f x x ≡ mul f (magnitude x) (magnitude x)
unfolding mul magnitude
same_square f nan = refl
same_square f (inf true) = refl
same_square f (inf false) = refl
same_square f (fin true m e) = refl
same_square f (fin false m e) = refl

pub square_grows : (f : Format) (x y : Float) → T (finite x) → T (finite y) → T (le (magnitude x) (magnitude y)) → T (le (mul f x x) (mul f y y))
square_grows f x y p q h =
    let a = magnitude x in
    let b = magnitude y in
    let A = magnitude_finite x p in
    let B = magnitude_finite y q in
    rw (same_square f x, same_square f y)
    (le_tr (mul f a a) (mul f b a) (mul f b b)
    (mul_mono f a b a A B A (magnitude_from x (finite_number x p)) h)
    (rw (mul_sym f b a) (mul_mono f a b b A B B (magnitude_from y (finite_number y q)) h)))

-- ---- one of two
pub total : (x y : Float) → T (number x) → T (number y) → T (le x y) ⊎ T (le y x)
total x y p q = go (lt x y) (lt→le x y) (nlt→le x y p q)
  where
    go : (b : Bool) → (T b → T (le x y)) → (T (not b) → T (le y x)) → T (le x y) ⊎ T (le y x)
    go true h k = inl (h tt)
    go false h k = inr (k tt)

pub larger_is : (P : Float → Type 0) (x y : Float) → P x → P y → P (larger x y)
unfolding larger
larger_is P x y h k = keeps P (lt x y) y _ (λ _. k) (keeps P (eq x x) x y (λ _. h) k)

pub smaller_is : (P : Float → Type 0) (x y : Float) → P x → P y → P (smaller x y)
unfolding smaller
smaller_is P x y h k = keeps P (lt y x) y _ (λ _. k) (keeps P (eq x x) x y (λ _. h) k)

pub smaller_up_to : (x y : Float) → T (number x) → T (number y) → T (le (smaller x y) y)
unfolding smaller
smaller_up_to x y p q =
    let P : Float → Type 0 = λ z. T (le z y) in
    chosen P (lt y x) y _ (λ _. le_rf y q) (λ t. keeps P (eq x x) x y (λ _. nlt→le y x q p t) (le_rf y q))

-- ---- quotients
pub numerator_finite : (f : Format) (x y : Float) → T (finite (div f x y)) → T (finite x)
unfolding div
numerator_finite f nan y p = p
numerator_finite f (inf s) nan p = p
numerator_finite f (inf s) (inf t) p = p
numerator_finite f (inf s) (fin t n d) p = p
numerator_finite f (fin s m e) y p = tt
