-- What the functions of this crate give, for any float. `finite` is `Rattle.std.specs.Float.Ieee.Scale`'s: true for what is neither a NaN nor an infinity.
use Rattle.std.specs.Prelude.{false, cond}
use lib.Ieee.{Float, nan, inf, fin, lt, eq, le}

-- the source's `fabs`: the sign is cleared
unfoldable pub magnitude : Float → Float
magnitude nan = nan
magnitude (inf s) = inf false
magnitude (fin s m e) = fin false m e

-- x between lo and hi; a NaN goes to hi
unfoldable pub clamp : Float → Float → Float → Float
clamp x lo hi = cond (le x hi) (cond (le lo x) x lo) hi

-- the source's `x.max(y)` and `x.min(y)`: a NaN gives way to the other, and of two that are equal the first is kept
unfoldable pub larger : Float → Float → Float
larger x y = cond (lt x y) y (cond (eq x x) x y)

unfoldable pub smaller : Float → Float → Float
smaller x y = cond (lt y x) y (cond (eq x x) x y)
