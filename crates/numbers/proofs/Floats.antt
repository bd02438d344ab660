-- What the tests of `sqrt` say of its argument.
use Rattle.floats.specs.Prelude.{◌≡◌, refl, sym, ap, ◌∙◌, subst, ◌⊎◌, inl, inr, Bool, true, false, not, ◌&&◌, ◌||◌, Bool_beq, true≢false, ℕ, zero, suc, ◌+◌, ◌*◌, ◌/◌, ◌%◌, ◌≤◌, ◌<◌, zero-mul, mul-one, mul-pos, zero-lt-suc, arith, ℤ, T, ltb, eqb, lt→ltb, eqb→eq, bit_and, and_mask, Float, nan, inf, fin, binary64, up, down, eq, lt, div, is_nan, fits, of_bits, to_bits, up_pos, and_l}
use lib.Ieee.Bits.{is_true}
use Rattle.numbers.specs.Root.{root}
use Rattle.numbers.proofs.RootPattern.{Read, read}

pub above_no_nan : (x : Float) → lt (of_bits binary64 0) x ≡ true → T (not (is_nan x))
unfolding lt is_nan of_bits
above_no_nan nan h = absurd (true≢false (sym h))
above_no_nan (inf s) h = tt
above_no_nan (fin s m e) h = tt

-- x > 0.0: the pattern and the root of an x that is finite, and those of the infinity
pub parse : (x : Float) → T (fits binary64 x) → lt (of_bits binary64 0) x ≡ true → Read binary64 x ⊎ ((to_bits binary64 x ≡ 2047 * 4503599627370496) × (x ≡ root binary64 x))
unfolding lt of_bits to_bits root
parse nan f h = absurd (true≢false (sym h))
parse (inf true) f h = absurd (true≢false (sym h))
parse (inf false) f h = inr (refl, refl)
parse (fin true m e) f h = absurd (true≢false (sym h))
parse (fin false zero e) f h = absurd (true≢false (sym h ∙ ap (λ (n : ℕ). ltb (0 * down e) n) (ap (λ (n : ℕ). n * 1) (zero-mul (up e))) ∙ ap (λ (n : ℕ). ltb n 0) (zero-mul (down e))))
parse (fin false (suc m) e) f h = inl (read binary64 m e f)

-- x == 0.0
no_zero : (a : ℕ) → 0 < a → a ≡ 0 → ⊥
no_zero a h e = omega arith

size_pos : (m : ℕ) (e : ℤ) → 0 < suc m * up e * 1
size_pos m e = subst (λ (n : ℕ). 0 < n) (sym (mul-one (suc m * up e))) (mul-pos (zero-lt-suc m) (up_pos e))

pub zero_root : (x : Float) → eq x (of_bits binary64 0) ≡ true → x ≡ root binary64 x
unfolding eq of_bits root
zero_root nan h = absurd (true≢false (sym h))
zero_root (inf s) h = absurd (true≢false (sym h))
zero_root (fin s zero e) h = refl
zero_root (fin s (suc m) e) h = absurd (no_zero (suc m * up e * 1) (size_pos m e) (eqb→eq (suc m * up e * 1) (0 * down e) (and_l (eqb (suc m * up e * 1) (0 * down e)) (Bool_beq s false || eqb (suc m * up e * 1) 0) (subst T (sym h) tt)) ∙ zero-mul (down e)))

-- neither above zero nor equal to it
pub no_root : (x : Float) → lt (of_bits binary64 0) x ≡ false → eq x (of_bits binary64 0) ≡ false → div binary64 (of_bits binary64 0) (of_bits binary64 0) ≡ root binary64 x
unfolding eq lt of_bits root div
no_root nan h k = refl
no_root (inf true) h k = refl
no_root (inf false) h k = absurd (true≢false h)
no_root (fin s zero e) h k = absurd (true≢false (sym (is_true _ (zero_level s e)) ∙ k))
  where
    zero_level : (s : Bool) (e : ℤ) → T (eqb (0 * up e * 1) (0 * down e) && (Bool_beq s false || eqb (0 * up e * 1) 0))
    zero_level s e =
        subst (λ (a : ℕ). T (eqb (a * 1) (0 * down e) && (Bool_beq s false || eqb (a * 1) 0))) (sym (zero-mul (up e)))
        (subst (λ (a : ℕ). T (eqb 0 a && (Bool_beq s false || eqb 0 0))) (sym (zero-mul (down e))) (last s))
      where
        last : (s : Bool) → T (true && (Bool_beq s false || true))
        last true = tt
        last false = tt
no_root (fin true (suc m) e) h k = refl
no_root (fin false (suc m) e) h k = absurd (true≢false (sym (is_true _ (subst (λ (a : ℕ). T (ltb a (suc m * up e * 1))) (sym (zero-mul (down e))) (lt→ltb 0 (suc m * up e * 1) (size_pos m e)))) ∙ h))

-- ---- the two fields of a pattern
-- no leading digit
pub low_field : (b K t : ℕ) → b ≡ K * 4503599627370496 + t → b / 4503599627370496 ≡ 0 → (K ≡ 0) × (bit_and b 4503599627370495 ≡ t)
low_field b K t e z = (at b K t e z, and_mask b 52 ∙ rest b K t e z)
  where
    at : (b K t : ℕ) → b ≡ K * 4503599627370496 + t → b / 4503599627370496 ≡ 0 → K ≡ 0
    at b K t e z = omega arith

    rest : (b K t : ℕ) → b ≡ K * 4503599627370496 + t → b / 4503599627370496 ≡ 0 → b % 4503599627370496 ≡ t
    rest b K t e z = omega arith

-- with the leading digit
pub high_field : (b K t : ℕ) → b ≡ K * 4503599627370496 + t → t < 9007199254740992 → (K ≡ 0) ⊎ (4503599627370496 ≤ t) → (b / 4503599627370496 ≡ 0 → ⊥)
    → (b / 4503599627370496 ≡ K + 1) × (bit_and b 4503599627370495 + 4503599627370496 ≡ t)
high_field b K t e l led z =
    let g = big b K t e led z in
    (field b K t e l g, ap (λ (n : ℕ). n + 4503599627370496) (and_mask b 52) ∙ rest b K t e l g)
  where
    low_t : (b K t : ℕ) → b ≡ K * 4503599627370496 + t → K ≡ 0 → (b / 4503599627370496 ≡ 0 → ⊥) → 4503599627370496 ≤ t
    low_t b K t e k z = omega arith

    big : (b K t : ℕ) → b ≡ K * 4503599627370496 + t → (K ≡ 0) ⊎ (4503599627370496 ≤ t) → (b / 4503599627370496 ≡ 0 → ⊥) → 4503599627370496 ≤ t
    big b K t e (inl k) z = low_t b K t e k z
    big b K t e (inr k) z = k

    field : (b K t : ℕ) → b ≡ K * 4503599627370496 + t → t < 9007199254740992 → 4503599627370496 ≤ t → b / 4503599627370496 ≡ K + 1
    field b K t e l g = omega arith

    rest : (b K t : ℕ) → b ≡ K * 4503599627370496 + t → t < 9007199254740992 → 4503599627370496 ≤ t → b % 4503599627370496 + 4503599627370496 ≡ t
    rest b K t e l g = omega arith
