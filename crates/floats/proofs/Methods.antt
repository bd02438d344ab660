-- What the methods of f64 give is what the definitions say.
use Rattle.floats.specs.Prelude.{◌≡◌, refl, sym, ap, true≢false, Bool, true, false, ◌||◌, cond, ◌*◌, T, Float, nan, inf, fin, binary64, up, down, lt, eq, is_nan, to_bits}
use Rattle.std.specs.Float.{float_with_sign}
use Rattle.floats.specs.Fractions.{signed→eq}
use Rattle.floats.specs.Definitions.{magnitude, larger, smaller}

pub without_sign : (x : Float) → float_with_sign false x ≡ magnitude x
unfolding magnitude float_with_sign
without_sign nan = refl
without_sign (inf s) = refl
without_sign (fin s m e) = refl

-- what equals itself by its own test
number : (x : Float) → is_nan x ≡ false → eq x x ≡ true
unfolding is_nan
number nan h = absurd (true≢false h)
number (inf true) h = unfold eq in refl
number (inf false) h = unfold eq in refl
number (fin s m e) h = holds _ (unfold eq in signed→eq s (m * up e * down e) s (m * up e * down e) refl)
  where
    holds : (b : Bool) → T b → b ≡ true
    holds true t = refl
    holds false t = absurd t

kept : (b : Bool) (x y : Float) → (b || is_nan x) ≡ false → x ≡ cond b y (cond (eq x x) x y)
kept true x y h = absurd (true≢false h)
kept false x y h = sym (ap (λ (e : Bool). cond e x y) (number x h))

pub larger_kept : (x y : Float) → (lt x y || is_nan x) ≡ false → x ≡ larger x y
unfolding larger
larger_kept x y h = kept (lt x y) x y h

pub smaller_kept : (x y : Float) → (lt y x || is_nan x) ≡ false → x ≡ smaller x y
unfolding smaller
smaller_kept x y h = kept (lt y x) x y h

pub nan_pattern : (x : Float) → is_nan x ≡ true → 0x7ff8_0000_0000_0000 ≡ to_bits binary64 x
unfolding is_nan to_bits
nan_pattern nan h = refl
nan_pattern (inf s) h = absurd (true≢false (sym h))
nan_pattern (fin s m e) h = absurd (true≢false (sym h))
