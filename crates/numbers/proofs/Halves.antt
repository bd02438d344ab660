-- Squares by halves of 26 bits, as `is_above` and `is_closest` compute them: the part of q * q + q from 2 ^ 52 up, and what is left of c * 2 ^ 52 over q * q.
use Rattle.floats.specs.Prelude.{◌≡◌, sym, ap, ◌∙◌, subst, true, ◌&&◌, ℕ, ◌+◌, ◌*◌, ◌/◌, ◌%◌, ◌^◌, ◌≤◌, ◌<◌, mul-le-mul, le_of_lt, lt_of_not-le, div-add-mod', mod-lt, arith, dec_le, lt-ltb, le-ltb, T, ltb, leb, ltb→lt, leb→le, lit<, bit_and, and_mask}
use Rattle.floats.specs.Tests.{both}
use Rattle.numbers.specs.Root.{Closest}

abbrev pub upper : ℕ → ℕ → ℕ → ℕ
upper a b q = a * a + (2 * a * b + (b * b + q) / 67108864) / 67108864

under : (a b c : ℕ) → b < 67108864 → upper a b (a * 67108864 + b) < c → (a * 67108864 + b) * (a * 67108864 + b) + (a * 67108864 + b) < c * 4503599627370496
under a b c B h = omega arith

over : (a b c : ℕ) → b < 67108864 → c ≤ upper a b (a * 67108864 + b) → c * 4503599627370496 ≤ (a * 67108864 + b) * (a * 67108864 + b) + (a * 67108864 + b)
over a b c B h = omega arith

at : (a b c : ℕ) → b < 67108864 → ltb (upper a b (a * 67108864 + b)) c ≡ ltb ((a * 67108864 + b) * (a * 67108864 + b) + (a * 67108864 + b)) (c * 2 ^ 52)
at a b c B = go (dec_le c (upper a b (a * 67108864 + b)))
  where
    go : Dec (c ≤ upper a b (a * 67108864 + b)) → ltb (upper a b (a * 67108864 + b)) c ≡ ltb ((a * 67108864 + b) * (a * 67108864 + b) + (a * 67108864 + b)) (c * 2 ^ 52)
    go (yes h) = le-ltb _ _ h ∙ sym (le-ltb _ _ (over a b c B h))
    go (no g) = lt-ltb _ _ (lt_of_not-le g) ∙ sym (lt-ltb _ _ (under a b c B (lt_of_not-le g)))

pub upper_is : (q c : ℕ) → ltb (upper (q / 67108864) (bit_and q 67108863) q) c ≡ ltb (q * q + q) (c * 2 ^ 52)
upper_is q c =
    ap (λ (b : ℕ). ltb (upper (q / 67108864) b q) c) (and_mask q 26)
    ∙ subst (λ (z : ℕ). ltb (upper (q / 67108864) (q % 67108864) z) c ≡ ltb (z * z + z) (c * 2 ^ 52)) (div-add-mod' q 67108864) (at (q / 67108864) (q % 67108864) c (mod-lt q (lit< tt)))

-- the products fit

pub mask_small : (q : ℕ) → bit_and q 67108863 < 67108864
mask_small q = subst (λ (z : ℕ). z < 67108864) (sym (and_mask q 26)) (mod-lt q (lit< tt))

pub low_square : (q : ℕ) → bit_and q 67108863 * bit_and q 67108863 ≤ 67108864 * 67108864
low_square q = mul-le-mul (le_of_lt (mask_small q)) (le_of_lt (mask_small q))

pub cross : (q : ℕ) → q ≤ 2 ^ 53 → q / 67108864 * bit_and q 67108863 ≤ 134217728 * 67108864
cross q h = mul-le-mul high (le_of_lt (mask_small q))
  where
    high : q / 67108864 ≤ 134217728
    high = omega arith

pub high_square : (q : ℕ) → q ≤ 2 ^ 53 → q / 67108864 * (q / 67108864) ≤ 134217728 * 134217728
high_square q h = mul-le-mul high high
  where
    high : q / 67108864 ≤ 134217728
    high = omega arith

-- What `is_closest` sees: q * q is t * 2 ^ 26 and less than 2 ^ 26 more above a * a * 2 ^ 52, and w is d * 2 ^ 26.
abbrev pub lower : ℕ → ℕ → ℕ
lower a b = 2 * a * b + b * b / 67108864

pub seen : (q c d : ℕ) → d + q / 67108864 * (q / 67108864) ≡ c
    → lower (q / 67108864) (bit_and q 67108863) < d * 67108864 + q / 67108864 → d * 67108864 ≤ lower (q / 67108864) (bit_and q 67108863) + q / 67108864
    → Closest (c * 2 ^ 52) q
seen q c d e =
    subst (λ (b : ℕ). lower a b < d * 67108864 + a → d * 67108864 ≤ lower a b + a → Closest (c * 2 ^ 52) q) (sym (and_mask q 26))
    (subst (λ (z : ℕ). lower a (q % 67108864) < d * 67108864 + a → d * 67108864 ≤ lower a (q % 67108864) + a → Closest (c * 2 ^ 52) z) (div-add-mod' q 67108864) (parts a (q % 67108864) c d (mod-lt q (lit< tt)) e))
  where
    a : ℕ
    a = q / 67108864

    parts : (a b c d : ℕ) → b < 67108864 → d + a * a ≡ c → lower a b < d * 67108864 + a → d * 67108864 ≤ lower a b + a → Closest (c * 2 ^ 52) (a * 67108864 + b)
    parts a b c d B e l h = (omega arith, omega arith)

-- two tests in one, as `is_closest` and `sqrt` have them
pub joined : (a b c d : ℕ) → leb a b && ltb c d ≡ true → (a ≤ b) × (c < d)
joined a b c d e =
    let h = (both (leb a b) (ltb c d)).0 (subst T (sym e) tt) in
    (leb→le a b h.0, ltb→lt c d h.1)
