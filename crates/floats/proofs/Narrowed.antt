-- Rounding a binary64 value to a format keeps the order of finite values, so it keeps to an interval whose ends it rounds too.
use Rattle.floats.specs.Prelude.{◌≡◌, refl, ◌*◌, T, Float, nan, inf, fin, Format, binary32, binary64, up, down, le, down_pos, finite}
use Rattle.floats.specs.Notation.{single, narrow}
use Rattle.floats.specs.Fractions.{le→ord}
use Rattle.floats.specs.Order.{Within, within_finite}
use Rattle.floats.specs.Rounding.{rnd_mono, round_rnd}

single_mono : (x y : Float) → T (finite x) → T (finite y) → T (le x y) → T (le (single x) (single y))
single_mono nan y p q h = absurd p
single_mono (inf s) y p q h = absurd p
single_mono (fin s m e) nan p q h = absurd q
single_mono (fin s m e) (inf t) p q h = absurd q
single_mono (fin s m e) (fin t n d) p q h =
    rnd_mono binary32 (single (fin s m e)) (single (fin t n d)) _ _ (down e) _ _ (down d) (down_pos e) (down_pos d)
    (round_rnd binary32 s (m * up e) (down e)) (round_rnd binary32 t (n * up d) (down d)) (le→ord (fin s m e) (fin t n d) tt tt h)

pub narrow_within : (w : Format) (x lo hi : Float) → T (finite lo) → T (finite hi) → Within x lo hi → Within (narrow w x) (narrow w lo) (narrow w hi)
narrow_within binary64 x lo hi p q v = v
narrow_within binary32 x lo hi p q v = let f = within_finite x lo hi p q v in (single_mono lo x p f v.0, single_mono x hi f q v.1)

pub narrow_nan : (w : Format) → narrow w nan ≡ nan
narrow_nan binary32 = refl
narrow_nan binary64 = refl
