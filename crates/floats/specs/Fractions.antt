-- A finite value is a signed fraction, (plus - less) / den, and the order of finite values is that of their fractions.
-- Comparisons of floats become comparisons of whole products, which `omega` can do.
use Rattle.std.specs.Prelude.{◌≡◌, refl, ◌⊎◌, ℕ, ◌+◌, ◌*◌, ◌≤◌, ◌<◌, Bool, true, false, ◌||◌, T, eqb, Float}
use Rattle.std.proofs.Common.{sym, inl, inr, eq-or-lt_of_le, le_of_eq, le_of_lt, zero-mul, mul_comm, mul_assoc, mul_left_comm, mul_right_comm, add-mul, mul-le-mul_right, le_of_mul-le-mul_right, arith, eqb→eq, ltb→lt, lt→ltb}
use Rattle.std.specs.Float.{nan, inf, fin}
use Rattle.std.specs.Float.Ieee.{up, down, below, level, le}
use Rattle.std.specs.Float.Ieee.Fits.{and_l, and_r, and_i, eq→eqb}
use Rattle.std.specs.Float.Ieee.Scale.{finite}
use Rattle.std.specs.Float.Ieee.Positive.{num, den}

-- ---- a finite value as a signed fraction (plus - less) / den
abbrev pub pl : Bool → ℕ → ℕ
pl false a = a
pl true a = 0

abbrev pub mi : Bool → ℕ → ℕ
mi false a = 0
mi true a = a

abbrev pub sign : Float → Bool
sign nan = false
sign (inf s) = s
sign (fin s m e) = s

abbrev pub plus : Float → ℕ
plus x = pl (sign x) (num x)

abbrev pub less : Float → ℕ
less x = mi (sign x) (num x)

-- p / c - n / c is at most p' / c' - n' / c'
abbrev pub Ord : ℕ → ℕ → ℕ → ℕ → ℕ → ℕ → Type 0
Ord p n c p' n' c' = p * c' + n' * c ≤ p' * c + n * c'

pub pl_mul : (s : Bool) (a k : ℕ) → pl s (a * k) ≡ pl s a * k
pl_mul false a k = refl
pl_mul true a k = sym (zero-mul k)

pub mi_mul : (s : Bool) (a k : ℕ) → mi s (a * k) ≡ mi s a * k
mi_mul false a k = sym (zero-mul k)
mi_mul true a k = refl

-- ---- tests
pub or_split : (a b : Bool) → T (a || b) → T a ⊎ T b
or_split true b t = inl tt
or_split false b t = inr t

pub or_l : (a b : Bool) → T a → T (a || b)
or_l true b t = tt
or_l false b t = absurd t

pub or_r : (a b : Bool) → T b → T (a || b)
or_r true b t = tt
or_r false b t = t

is : (a b : ℕ) → a ≡ b → T (eqb a b)
is a b h = eq→eqb h

-- ---- signed numbers
pub lt→signed : (s : Bool) (a : ℕ) (t : Bool) (b : ℕ) → T (below s a t b) → pl s a + mi t b < pl t b + mi s a
lt→signed false a false b h = omega (arith, ltb→lt a b h)
lt→signed false a true b h = absurd h
lt→signed true a false b h = omega (arith, ltb→lt 0 (a + b) h)
lt→signed true a true b h = omega (arith, ltb→lt b a h)

signed→lt : (s : Bool) (a : ℕ) (t : Bool) (b : ℕ) → pl s a + mi t b < pl t b + mi s a → T (below s a t b)
signed→lt false a false b h = lt→ltb a b (omega arith)
signed→lt false a true b h = let u : ⊥ = omega arith in absurd u
signed→lt true a false b h = lt→ltb 0 (a + b) (omega arith)
signed→lt true a true b h = lt→ltb b a (omega arith)

eq→signed : (s : Bool) (a : ℕ) (t : Bool) (b : ℕ) → T (level s a t b) → pl s a + mi t b ≡ pl t b + mi s a
eq→signed false a false b h = omega (arith, eqb→eq a b (and_l (eqb a b) true h))
eq→signed false a true b h = omega (arith, eqb→eq a b (and_l (eqb a b) (eqb a 0) h), eqb→eq a 0 (and_r (eqb a b) (eqb a 0) h))
eq→signed true a false b h = omega (arith, eqb→eq a b (and_l (eqb a b) (eqb a 0) h), eqb→eq a 0 (and_r (eqb a b) (eqb a 0) h))
eq→signed true a true b h = omega (arith, eqb→eq a b (and_l (eqb a b) true h))

pub signed→eq : (s : Bool) (a : ℕ) (t : Bool) (b : ℕ) → pl s a + mi t b ≡ pl t b + mi s a → T (level s a t b)
signed→eq false a false b h = and_i (eqb a b) true (is a b (omega arith)) tt
signed→eq false a true b h = and_i (eqb a b) (eqb a 0) (is a b (omega arith)) (is a 0 (omega arith))
signed→eq true a false b h = and_i (eqb a b) (eqb a 0) (is a b (omega arith)) (is a 0 (omega arith))
signed→eq true a true b h = and_i (eqb a b) true (is a b (omega arith)) tt

-- ---- the order of finite values is that of their signed fractions
spread : (s : Bool) (a : ℕ) (t : Bool) (b k l : ℕ) → pl s (a * k) + mi t (b * l) ≤ pl t (b * l) + mi s (a * k) → Ord (pl s a) (mi s a) l (pl t b) (mi t b) k
spread s a t b k l h = omega (arith, pl_mul s a k, mi_mul t b l, pl_mul t b l, mi_mul s a k)

gather : (s : Bool) (a : ℕ) (t : Bool) (b k l : ℕ) → Ord (pl s a) (mi s a) l (pl t b) (mi t b) k → pl s (a * k) + mi t (b * l) ≤ pl t (b * l) + mi s (a * k)
gather s a t b k l h = omega (arith, pl_mul s a k, mi_mul t b l, pl_mul t b l, mi_mul s a k)

pub le→signed : (s : Bool) (a : ℕ) (t : Bool) (b : ℕ) → T (below s a t b || level s a t b) → pl s a + mi t b ≤ pl t b + mi s a
le→signed s a t b h = elim (or_split (below s a t b) (level s a t b) h) [ inl u ↦ le_of_lt (lt→signed s a t b u) | inr u ↦ le_of_eq (eq→signed s a t b u) ]

pub signed→le : (s : Bool) (a : ℕ) (t : Bool) (b : ℕ) → pl s a + mi t b ≤ pl t b + mi s a → T (below s a t b || level s a t b)
signed→le s a t b h = elim (eq-or-lt_of_le h) [ inl u ↦ or_r (below s a t b) (level s a t b) (signed→eq s a t b u) | inr u ↦ or_l (below s a t b) (level s a t b) (signed→lt s a t b u) ]

-- x ≤ y as numbers
abbrev pub Le : Float → Float → Type 0
Le x y = Ord (plus x) (less x) (den x) (plus y) (less y) (den y)

pub le→ord : (x y : Float) → T (finite x) → T (finite y) → T (le x y) → Le x y
unfolding le
le→ord nan y p q h = absurd p
le→ord (inf s) y p q h = absurd p
le→ord (fin s m e) nan p q h = absurd q
le→ord (fin s m e) (inf t) p q h = absurd q
le→ord (fin s m e) (fin t n d) p q h = spread s (m * up e) t (n * up d) (down d) (down e) (le→signed s (m * up e * down d) t (n * up d * down e) h)

pub ord→le : (x y : Float) → T (finite x) → T (finite y) → Le x y → T (le x y)
unfolding le
ord→le nan y p q h = absurd p
ord→le (inf s) y p q h = absurd p
ord→le (fin s m e) nan p q h = absurd q
ord→le (fin s m e) (inf t) p q h = absurd q
ord→le (fin s m e) (fin t n d) p q h = signed→le s (m * up e * down d) t (n * up d * down e) (gather s (m * up e) t (n * up d) (down d) (down e) h)

-- ---- the order of signed fractions
pub expand : (x y k : ℕ) → x ≤ y → x * k ≤ y * k
expand x y k h = mul-le-mul_right k h

pub ord_trans : (p n c p' n' c' p'' n'' c'' : ℕ) → 0 < c' → Ord p n c p' n' c' → Ord p' n' c' p'' n'' c'' → Ord p n c p'' n'' c''
ord_trans p n c p' n' c' p'' n'' c'' C h k =
    let a : p * c' * c'' + n' * c * c'' ≤ p' * c * c'' + n * c' * c'' = simp (← add-mul) (mul-le-mul_right c'' h) in
    let b : p' * c'' * c + n'' * c' * c ≤ p'' * c' * c + n' * c'' * c = simp (← add-mul) (mul-le-mul_right c k) in
    le_of_mul-le-mul_right (simp (add-mul) (omega (arith, mul_right_comm p c' c'', mul_right_comm n' c c'', mul_right_comm p' c c'', mul_right_comm n c' c'', mul_right_comm n'' c' c, mul_right_comm p'' c' c))) C

-- sums of products in one order, for `omega`
pub ruleset ac = (add-mul, mul_assoc, mul_comm, mul_left_comm)
