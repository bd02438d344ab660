-- The loop of `root_pattern`, and what follows it.
use Rattle.floats.specs.Prelude.{◌≡◌, refl, sym, ap, ◌∙◌, not, ℕ, zero, suc, ◌+◌, ◌-◌, ◌*◌, ◌/◌, ◌%◌, ◌^◌, ◌≤◌, ◌<◌, le_trans, le_of_eq, lt_of_lt_of_le, lt_of_le_of_lt, lt_irrefl, lt_of_not-le, one-mul, mul-one, mul_assoc, mul-le-mul_left, mul-le-mul_right, mul-lt-mul_of_pos_right, pow-succ', mod-eq_of_lt, arith, T, lit≤, pow-add, pow_pos, pow_mono, shl_lt, bit_and, and_mask, mask_lt, binary64, of_bits, nan_bits}
use Rattle.numbers.specs.Root.{root_of, Closest}
use Rattle.numbers.proofs.RootWhole.{closest_le}
use Rattle.numbers.proofs.RootPattern.{pattern_root}

-- one turn
pub doubled : (m e n : ℕ) → 0 < e → m * 2 ^ e ≡ n → m * 2 * 2 ^ (e - 1) ≡ n
doubled m zero n h p = absurd (lt_irrefl 0 h)
doubled m (suc e) n h p = ap (λ (x : ℕ). m * 2 * 2 ^ x) (pred e) ∙ mul_assoc m 2 (2 ^ e) ∙ ap (λ (x : ℕ). m * x) (sym (pow-succ' 2 e)) ∙ p
  where
    pred : (e : ℕ) → suc e - 1 ≡ e
    pred e = omega arith

-- the exponent stays large
pub large : (m e m0 e0 : ℕ) → m * 2 ^ e ≡ m0 * 2 ^ e0 → m < 2 ^ 53 → 0 < m0 → 1074 ≤ e0 → 1022 ≤ e
large m e m0 e0 p M M0 E =
    let a : 2 ^ 1074 < 2 ^ (53 + e) =
    lt_of_le_of_lt (le_trans (pow_mono E) (le_trans (le_of_eq (sym (one-mul (2 ^ e0)))) (le_trans (mul-le-mul_right (2 ^ e0) M0) (le_of_eq (sym p))))) (shl_lt 53 e M) in
    fin (53 + e) refl (lt_of_not-le (λ (g : 53 + e ≤ 1074). lt_irrefl (2 ^ 1074) (lt_of_lt_of_le a (pow_mono g))))
  where
    fin : (x : ℕ) → 53 + e ≡ x → 1074 < x → 1022 ≤ e
    fin x q h = omega arith

-- c, as the program shifts it
pub shifted : (m e : ℕ) → m < 2 ^ 53 → m * 2 ^ bit_and e 1 % 2 ^ 64 ≡ m * 2 ^ (e % 2)
shifted m e M = ap (λ (x : ℕ). m * 2 ^ x % 2 ^ 64) (and_mask e 1) ∙ mod-eq_of_lt (lt_of_lt_of_le (shl_lt 53 (e % 2) M) (pow_mono (small e)))
  where
    small : (e : ℕ) → 53 + e % 2 ≤ 64
    small e = omega arith

pub c_ge : (m e : ℕ) → 2 ^ 52 ≤ m → 2 ^ 52 ≤ m * 2 ^ (e % 2)
c_ge m e h = le_trans h (le_trans (le_of_eq (sym (mul-one m))) (mul-le-mul_left m (pow_pos (e % 2))))

pub c_lt : (m e : ℕ) → m < 2 ^ 53 → m * 2 ^ (e % 2) < 2 ^ 54
c_lt m e M = lt_of_lt_of_le (shl_lt 53 (e % 2) M) (pow_mono (small e))
  where
    small : (e : ℕ) → 53 + e % 2 ≤ 54
    small e = omega arith

-- k, as the program shifts it
pub k_shifted : (e : ℕ) → e < 3120 → (e - 52) / 2 * 4503599627370496 % 2 ^ 64 ≡ (e - 52) / 2 * 4503599627370496
k_shifted e h = mod-eq_of_lt (at ((e - 52) / 2) (half e h))
  where
    half : (e : ℕ) → e < 3120 → (e - 52) / 2 < 2048
    half e h = omega arith

    at : (k : ℕ) → k < 2048 → k * 4503599627370496 < 2 ^ 64
    at k h = omega arith

parts : (m e : ℕ) → 52 ≤ e → m * 2 ^ e ≡ m * 2 ^ (e % 2) * 2 ^ 52 * 2 ^ ((e - 52) / 2 + (e - 52) / 2)
parts m e h =
    let k = (e - 52) / 2 in
    ap (λ (x : ℕ). m * 2 ^ x) (sum e h)
    ∙ ap (λ (x : ℕ). m * x) (pow-add 2 (e % 2 + 52) (k + k) ∙ ap (λ (x : ℕ). x * 2 ^ (k + k)) (pow-add 2 (e % 2) 52))
    ∙ sym (mul_assoc m (2 ^ (e % 2) * 2 ^ 52) (2 ^ (k + k)))
    ∙ ap (λ (x : ℕ). x * 2 ^ (k + k)) (sym (mul_assoc m (2 ^ (e % 2)) (2 ^ 52)))
  where
    sum : (e : ℕ) → 52 ≤ e → e ≡ e % 2 + 52 + ((e - 52) / 2 + (e - 52) / 2)
    sum e h = omega arith

pub answer : (m e q : ℕ) → 2 ^ 52 ≤ m → m < 2 ^ 53 → 1022 ≤ e → e < 3120 → Closest (m * 2 ^ (e % 2) * 2 ^ 52) q
    → (of_bits binary64 ((e - 52) / 2 * 4503599627370496 + q) ≡ root_of binary64 (m * 2 ^ e)) × T (not (nan_bits binary64 ((e - 52) / 2 * 4503599627370496 + q)))
answer m e q lo hi E1 E2 c =
    pattern_root binary64 (m * 2 ^ e) (m * 2 ^ (e % 2) * 2 ^ 52) ((e - 52) / 2) q (parts m e (le_trans (lit≤ tt) E1))
    (le_trans (le_of_eq (pow-add 2 52 52)) (mul-le-mul_right (2 ^ 52) (c_ge m e lo)))
    (lt_of_lt_of_le (mul-lt-mul_of_pos_right (c_lt m e hi) (pow_pos 52)) (le_of_eq (sym (pow-add 2 54 52))))
    (lt_of_lt_of_le (shl_lt 53 e hi) (pow_mono (top e E2)))
    c
  where
    top : (e : ℕ) → e < 3120 → 53 + e ≤ 3172
    top e h = omega arith

pub q_small : (m e q : ℕ) → m < 2 ^ 53 → Closest (m * 2 ^ (e % 2) * 2 ^ 52) q → q ≤ 2 ^ 53
q_small m e q M c = closest_le (m * 2 ^ (e % 2) * 2 ^ 52) q (2 ^ 53) (lt_of_lt_of_le (mul-lt-mul_of_pos_right (c_lt m e M) (pow_pos 52)) (lit≤ tt)) c

pub bit_lt : (e : ℕ) → bit_and e 1 < 64
bit_lt e = lt_of_lt_of_le (mask_lt e 1) (lit≤ tt)

pub sum_lt : (e q : ℕ) → e < 3120 → q ≤ 2 ^ 53 → (e - 52) / 2 * 4503599627370496 + q < 2 ^ 64
sum_lt e q h k = at ((e - 52) / 2) (half e h) k
  where
    half : (e : ℕ) → e < 3120 → (e - 52) / 2 < 2048
    half e h = omega arith

    at : (k : ℕ) → k < 2048 → q ≤ 2 ^ 53 → k * 4503599627370496 + q < 2 ^ 64
    at k h g = omega arith
