-- What the bits of a float say of it.
use Rattle.floats.specs.Prelude.{◌≡◌, refl, sym, ap, ◌∙◌, subst, Bool, true, false, not, cond, ℕ, zero, suc, ◌+◌, ◌*◌, ◌/◌, ◌%◌, ◌^◌, arith, T, leb, eqb, bit_and, and_mask, Float, nan, inf, fin, Format, binary64, prec, low, hid, ones, top, odd, of_fields, of_bits, to_bits, is_nan, fits}
use lib.Ieee.Bits.{of_bits-to_bits}
use Rattle.floats.specs.Fractions.{sign}

-- ---- the first bit is the sign
sign_odd : (d : ℕ) (s : Bool) (q k l : ℕ) → sign (odd d s q k l) ≡ s
unfolding odd
sign_odd d s zero k l = refl
sign_odd d s (suc q) k l = refl

sign_fields : (f : Format) (s : Bool) (x t : ℕ) → T (not (is_nan (of_fields f s x t))) → sign (of_fields f s x t) ≡ s
unfolding of_fields is_nan
sign_fields f s zero t p = sign_odd (prec f) s t 0 (low f)
sign_fields f s (suc x) t p = go (eqb (suc x) (ones f)) (eqb t 0) p
  where
    go : (a b : Bool) → T (not (is_nan (cond a (cond b (inf s) nan) (odd (prec f) s (hid f + t) x (low f))))) → sign (cond a (cond b (inf s) nan) (odd (prec f) s (hid f + t) x (low f))) ≡ s
    go true true p = refl
    go true false p = absurd p
    go false b p = sign_odd (prec f) s (hid f + t) x (low f)

sign_bits : (f : Format) (x : Float) → T (fits f x) → T (not (is_nan x)) → leb (top f) (to_bits f x) ≡ sign x
unfolding of_bits
sign_bits f x t p =
    let b = to_bits f x in
    let e : of_bits f b ≡ x = of_bits-to_bits f x t in
    sym (sign_fields f (leb (top f) b) (b % top f / hid f) (b % hid f) (subst (λ (y : Float). T (not (is_nan y))) (sym e) p)) ∙ ap sign e

pub first_bit : (x : Float) → T (fits binary64 x) → leb (2 ^ 63) (to_bits binary64 x) ≡ sign x
first_bit nan t = unfold to_bits in refl
first_bit (inf s) t = sign_bits binary64 (inf s) t (unfold is_nan in tt)
first_bit (fin s m e) t = sign_bits binary64 (fin s m e) t (unfold is_nan in tt)

-- ---- a mask of eleven bits, moved to the exponent's field
pub field_alone : (b : ℕ) → bit_and b 2047 * 4503599627370496 % 18446744073709551616 ≡ b % 2 ^ 11 * 2 ^ 52
field_alone b = rw (and_mask b 11) (omega arith)
