-- What is no NaN, and which bits are no NaN's: what a program shows before it reads or writes a float's bits.
use Rattle.std.specs.Prelude.{◌≡◌, refl, Bool, true, false, not, ℕ, ◌*◌, ◌%◌, ◌≤◌, ◌<◌, T, Float}
use Rattle.std.proofs.Common.{sym, subst, ◌∙◌, true≢false, lt→ltb}
use Rattle.std.proofs.Math.Arith.{le→nltb}
use Rattle.std.specs.Float.{nan, inf, fin, Format}
use Rattle.std.specs.Float.Ieee.{up, down, eq, is_nan, of_bits, nan_bits, hid, ones, top}
use Rattle.std.specs.Float.Ieee.Bits.{nan_bits_is, nan_bits_above}
use Rattle.floats.specs.Fractions.{signed→eq}

pub self_equal : (x : Float) → eq x x ≡ true → T (not (is_nan x))
unfolding eq is_nan
self_equal nan h = absurd (true≢false (sym h))
self_equal (inf s) h = tt
self_equal (fin s m e) h = tt

pub not_self_equal : (x : Float) → eq x x ≡ false → x ≡ nan
unfolding eq
not_self_equal nan h = refl
not_self_equal (inf true) h = absurd (true≢false h)
not_self_equal (inf false) h = absurd (true≢false h)
not_self_equal (fin s m e) h = absurd (subst T h (signed→eq s (m * up e * down e) s (m * up e * down e) refl))

pub is_the_nan : (x : Float) → T (is_nan x) → x ≡ nan
unfolding is_nan
is_the_nan nan t = refl
is_the_nan (inf s) t = absurd t
is_the_nan (fin s m e) t = absurd t

-- the bits but the sign, up to those of an infinity and above them
module _ (w : Format) (n : ℕ) where
  pub number_bits : n % top w ≤ ones w * hid w → T (not (nan_bits w n))
  number_bits h = subst (λ (b : Bool). T (not b)) (sym (nan_bits_above w n)) (le→nltb (ones w * hid w) (n % top w) h)

  pub nan_bits_lem : ones w * hid w < n % top w → of_bits w n ≡ nan
  nan_bits_lem h = is_the_nan (of_bits w n) (subst T (sym (nan_bits_above w n) ∙ nan_bits_is w n) (lt→ltb (ones w * hid w) (n % top w) h))
