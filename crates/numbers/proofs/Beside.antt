-- The root of a number next to 1: its pattern is half as many steps from that of 1, rounded down, since the root of 1 + t is below 1 + t / 2 by less than half a step.
use Rattle.floats.specs.Prelude.{◌≡◌, sym, ap, ◌∙◌, subst, not, ℕ, ◌+◌, ◌-◌, ◌*◌, ◌/◌, ◌%◌, ◌^◌, ◌≤◌, ◌<◌, mul-le-mul, mul-le-mul_right, le_refl, le_trans, lt_of_not-le, dec_le, arith, T, lit≤, lit<, bit_and, and_mask, Float, binary64, to_bits, of_bits, nan_bits}
use Rattle.numbers.specs.Root.{root, Closest}
use Rattle.numbers.proofs.Normal.{answer}
use Rattle.numbers.proofs.Parsed.{Parsed, High, high}

-- i is the half of j steps above 1, rounded down
up : (j i : ℕ) → i + i ≤ j → j ≤ i + i + 1 → i < 67108864 → Closest ((j + 4503599627370496) * 1 * 2 ^ 52) (4503599627370496 + i)
up j i a b h = at (mul-le-mul (le_of h) (le_refl i))
  where
    le_of : i < 67108864 → i ≤ 67108864
    le_of h = omega arith

    at : i * i ≤ 67108864 * i → Closest ((j + 4503599627370496) * 1 * 2 ^ 52) (4503599627370496 + i)
    at s = (omega arith, omega arith)

-- i is the half of j steps below 1, rounded up, and k is 1 in those steps
down : (k j i q m : ℕ) → j ≤ i + i → i + i ≤ j + 1 → q + i ≡ k → m + j ≡ k → i * i < q → i ≤ i * i → Closest (m * k) q
down k j i q m a b e d l g =
    at (mul-le-mul_right k a) (mul-le-mul_right k b) (ap (λ (z : ℕ). z * q) e) (ap (λ (z : ℕ). z * i) e) (ap (λ (z : ℕ). z * k) e) (ap (λ (z : ℕ). z * k) d)
  where
    at : j * k ≤ (i + i) * k → (i + i) * k ≤ (j + 1) * k → (q + i) * q ≡ k * q → (q + i) * i ≡ k * i → (q + i) * k ≡ k * k → (m + j) * k ≡ k * k → Closest (m * k) q
    at u v w x y z = (omega arith, omega arith)

-- n is the pattern of the root of x
abbrev pub Pattern : Float → ℕ → Type 0
Pattern x n = (of_bits binary64 n ≡ root binary64 x) × T (not (nan_bits binary64 n))

pattern : (x : Float) (m e q n : ℕ) → High x m e → 2 ^ 52 ≤ m → Closest (m * 2 ^ (e % 2) * 2 ^ 52) q → (e - 52) / 2 * 4503599627370496 + q ≡ n → Pattern x n
pattern x m e q n H lo c r =
    let a = answer m e q lo H.1 (le_trans (lit≤ tt) H.2) H.3 c in
    subst (Pattern x) r (a.0 ∙ sym H.4, a.1)

digits : ℕ → ℕ
digits b = bit_and b 4503599627370495

-- what `high` says of an x with the field k
told : (x : Float) (k : ℕ) → Parsed x → to_bits binary64 x / 4503599627370496 ≡ k → 0 < k → k < 2047 → High x (digits (to_bits binary64 x) + 4503599627370496) (k + 1073)
unfolding digits
told x k P f lo hi =
    subst (λ (f : ℕ). High x (digits (to_bits binary64 x) + 4503599627370496) (f + 1073)) f
    (high x P (λ (z : to_bits binary64 x / 4503599627370496 ≡ 0). no (sym f ∙ z)) (subst (λ (n : ℕ). n < 2047) (sym f) hi))
  where
    no : k ≡ 0 → ⊥
    no e = omega arith

above : (x : Float) (b j : ℕ) → High x (j + 4503599627370496) 2096 → j ≡ b % 4503599627370496 → 4607182418800017408 ≤ b → b < 4607182418934235136 → Pattern x ((b + 4607182418800017408) / 2)
above x b j H p lo hi = pattern x (j + 4503599627370496) 2096 (4503599627370496 + j / 2) ((b + 4607182418800017408) / 2) H (omega arith) (up j (j / 2) (omega arith) (omega arith) (omega arith)) (omega arith)

below : (x : Float) (b j : ℕ) → High x (j + 4503599627370496) 2095 → j ≡ b % 4503599627370496 → 4607182418665799680 ≤ b → b < 4607182418800017408 → Pattern x ((b + 4607182418800017408) / 2)
below x b j H p lo hi =
    pattern x m 2095 (9007199254740992 - i) ((b + 4607182418800017408) / 2) H (omega arith)
    (subst (λ (z : ℕ). Closest z (9007199254740992 - i)) (twice m)
    (down 9007199254740992 (4607182418800017408 - b) i (9007199254740992 - i) m (omega arith) (omega arith) (omega arith) (omega arith) (small (mul-le-mul far (le_refl i))) (large (mul-le-mul near (le_refl i)))))
    (omega arith)
  where
    m : ℕ
    m = j + 4503599627370496

    i : ℕ
    i = (4607182418800017409 - b) / 2

    twice : (m : ℕ) → m * 9007199254740992 ≡ m * 2 * 2 ^ 52
    twice m = omega arith

    near : 1 ≤ i
    near = omega arith

    far : i ≤ 67108864
    far = omega arith

    small : i * i ≤ 67108864 * i → i * i < 9007199254740992 - i
    small s = omega (arith, far)

    large : 1 * i ≤ i * i → i ≤ i * i
    large s = omega arith

pub beside : (x : Float) → Parsed x → 4607182418665799680 ≤ to_bits binary64 x → to_bits binary64 x < 4607182418934235136 → Pattern x ((to_bits binary64 x + 4607182418800017408) / 2)
unfolding digits
beside x P lo hi = go (dec_le 4607182418800017408 b)
  where
    b : ℕ
    b = to_bits binary64 x

    go : Dec (4607182418800017408 ≤ b) → Pattern x ((b + 4607182418800017408) / 2)
    go (yes h) = above x b (digits b) (told x 1023 P (omega arith) (lit< tt) (lit< tt)) (and_mask b 52) h hi
    go (no h) = below x b (digits b) (told x 1022 P (omega (arith, lt_of_not-le h)) (lit< tt) (lit< tt)) (and_mask b 52) lo (lt_of_not-le h)
