-- The exponent's field and the digits of an x above zero, and its root from them.
use Rattle.floats.specs.Prelude.{◌≡◌, sym, ap, ◌∙◌, subst, ◌⊎◌, inl, inr, ℕ, ◌+◌, ◌*◌, ◌/◌, ◌^◌, ◌≤◌, ◌<◌, arith, bit_and, Float, binary64, to_bits}
use Rattle.numbers.specs.Root.{root, root_of}
use Rattle.numbers.proofs.RootPattern.{Read}
use Rattle.numbers.proofs.Floats.{low_field, high_field}

-- the pattern of an x above zero
abbrev pub Parsed : Float → Type 0
Parsed x = Read binary64 x ⊎ ((to_bits binary64 x ≡ 2047 * 4503599627370496) × (x ≡ root binary64 x))

inf_field : (b : ℕ) → b ≡ 2047 * 4503599627370496 → b / 4503599627370496 ≡ 2047
inf_field b e = omega arith

clash : (n : ℕ) → n ≡ 2047 → n ≡ 0 → ⊥
clash n a b = omega arith

clash_lt : (n : ℕ) → n ≡ 2047 → n < 2047 → ⊥
clash_lt n a b = omega arith

-- the exponent's field is 0
pub low : (x : Float) → Parsed x → to_bits binary64 x / 4503599627370496 ≡ 0
    → (0 < bit_and (to_bits binary64 x) 4503599627370495) × (bit_and (to_bits binary64 x) 4503599627370495 < 9007199254740992) × (root binary64 x ≡ root_of binary64 (bit_and (to_bits binary64 x) 4503599627370495 * 2 ^ 1074))
low x (inl r) z =
    let l = low_field (to_bits binary64 x) r.K r.t r.bits z in
    subst (λ (d : ℕ). (0 < d) × (d < 9007199254740992) × (root binary64 x ≡ root_of binary64 (d * 2 ^ 1074))) (sym l.1)
    (r.more, r.less, r.is ∙ ap (λ (k : ℕ). root_of binary64 (r.t * 2 ^ (k + 1074))) l.0)
low x (inr i) z = absurd (clash _ (inf_field _ i.0) z)

in_range : (k : ℕ) → k + 53 ≤ 2098 → k + 1 + 1073 < 3120
in_range k h = omega arith

same_exponent : (k : ℕ) → k + 1074 ≡ k + 1 + 1073
same_exponent k = omega arith

abbrev pub High : Float → ℕ → ℕ → Type 0
High x d e = (0 < d) × (d < 9007199254740992) × (1074 ≤ e) × (e < 3120) × (root binary64 x ≡ root_of binary64 (d * 2 ^ e))

-- it is from 1 up to 2046
pub high : (x : Float) → Parsed x → (to_bits binary64 x / 4503599627370496 ≡ 0 → ⊥) → to_bits binary64 x / 4503599627370496 < 2047
    → High x (bit_and (to_bits binary64 x) 4503599627370495 + 4503599627370496) (to_bits binary64 x / 4503599627370496 + 1073)
high x (inl r) z l =
    let h = high_field (to_bits binary64 x) r.K r.t r.bits r.less r.lead z in
    subst (λ (d : ℕ). High x d (to_bits binary64 x / 4503599627370496 + 1073)) (sym h.1)
    (subst (λ (k : ℕ). High x r.t (k + 1073)) (sym h.0)
    (r.more, r.less, at_least r.K, in_range r.K r.top, r.is ∙ ap (λ (k : ℕ). root_of binary64 (r.t * 2 ^ k)) (same_exponent r.K)))
  where
    at_least : (k : ℕ) → 1074 ≤ k + 1 + 1073
    at_least k = omega arith
high x (inr i) z l = absurd (clash_lt _ (inf_field _ i.0) l)

-- it is 2047
pub top : (x : Float) → Parsed x → (to_bits binary64 x / 4503599627370496 ≡ 0 → ⊥) → 2047 ≤ to_bits binary64 x / 4503599627370496 → x ≡ root binary64 x
top x (inl r) z l = absurd (over r.K r.top (high_field (to_bits binary64 x) r.K r.t r.bits r.less r.lead z).0)
  where
    over : (k : ℕ) → k + 53 ≤ 2098 → to_bits binary64 x / 4503599627370496 ≡ k + 1 → ⊥
    over k a b = omega arith
top x (inr i) z l = i.1
