-- Arc sine, arc cosine and the angle of a point: fixed orders of binary64 operations. At another format the result is rounded once more.
use Rattle.std.specs.Prelude.{cond, ◌&&◌, Float}
use Rattle.std.specs.Float.{nan, Format, binary64}
use Rattle.std.specs.Float.Ieee.{neg, lt, eq, le}
use Rattle.std.specs.Float.Ieee.Scale.{finite}
use Rattle.floats.specs.Notation.{rounded, narrow}
use Rattle.floats.specs.Fractions.{sign}
use Rattle.floats.specs.Definitions.{magnitude, clamp}
use Rattle.numbers.specs.Constants.{𝟎, 𝟏, HALF, between, PI, PI_LO, PIO2, PIO2_LO, A0, A1, A2, A3, A4, A5, A6, A7, A8, A9, A10, A11, T0, T1, T2, T3, T4, T5, T6, T7, T8, T9, T10, T11, T12, T13, T14, T15, T16, T17, T18, T19}
use Rattle.numbers.specs.Root.{root}
use Rattle.numbers.specs.declared.arcs.Parts.{Parts}
open rounded binary64 use {◌⊕◌, ◌⊖◌, ◌⊗◌, ◌⊘◌}

-- ---- arc sine and arc cosine
-- (asin s - s) / s, for a z of s * s, from 0 to 0.25
unfoldable pub kasin : Float → Float
kasin z =
    let w = z ⊗ z in
    let u = w ⊗ w in
    let p0 = (A0 ⊕ z ⊗ A1) ⊕ w ⊗ (A2 ⊕ z ⊗ A3) in
    let p1 = (A4 ⊕ z ⊗ A5) ⊕ w ⊗ (A6 ⊕ z ⊗ A7) in
    let p2 = (A8 ⊕ z ⊗ A9) ⊕ w ⊗ (A10 ⊕ z ⊗ A11) in
    z ⊗ (p0 ⊕ u ⊗ (p1 ⊕ u ⊗ p2))

-- the arc cosine of a, from 0.5 to 1, as g + q: twice the arc sine of the root of (1 - a) / 2
unfoldable pub near_one : Float → Parts
near_one a =
    let z = HALF ⊗ (𝟏 ⊖ a) in
    let s = root binary64 z in
    let g = s ⊕ s in
    record { g = g; q = g ⊗ kasin z }

unfoldable pub arcsine : Float → Float
arcsine x =
    let h = near_one (magnitude x) in
    let v = clamp ((PIO2 ⊖ h.g) ⊕ (PIO2_LO ⊖ h.q)) (neg PIO2) PIO2 in
    cond (between x (neg 𝟏) 𝟏)
    (cond (le (magnitude x) HALF) (clamp (x ⊕ x ⊗ kasin (x ⊗ x)) (neg PIO2) PIO2)
    (cond (lt x 𝟎) (neg v) v))
    nan

unfoldable pub arccosine : Float → Float
arccosine x =
    let h = near_one (magnitude x) in
    cond (between x (neg 𝟏) 𝟏)
    (cond (le (magnitude x) HALF) (clamp (PIO2 ⊖ (x ⊕ (x ⊗ kasin (x ⊗ x) ⊖ PIO2_LO))) 𝟎 PI)
    (cond (lt x 𝟎) (clamp (PI ⊖ (h.g ⊕ (h.q ⊖ PI_LO))) 𝟎 PI) (clamp (h.g ⊕ h.q) 𝟎 PI)))
    nan

-- ---- the angle of a point
-- n / d, and 0 where d is 0
unfoldable pub ratio : Float → Float → Float
ratio n d = cond (eq d 𝟎) 𝟎 (n ⊘ d)

-- hi + lo + the arc tangent of n / d, for an n no larger in size than d
unfoldable pub katan : Float → Float → Float → Float → Float
katan n d hi lo =
    let t = ratio n d in
    let z = t ⊗ t in
    let w = z ⊗ z in
    let u = w ⊗ w in
    let q = u ⊗ u in
    let p0 = (T0 ⊕ z ⊗ T1) ⊕ w ⊗ (T2 ⊕ z ⊗ T3) in
    let p1 = (T4 ⊕ z ⊗ T5) ⊕ w ⊗ (T6 ⊕ z ⊗ T7) in
    let p2 = (T8 ⊕ z ⊗ T9) ⊕ w ⊗ (T10 ⊕ z ⊗ T11) in
    let p3 = (T12 ⊕ z ⊗ T13) ⊕ w ⊗ (T14 ⊕ z ⊗ T15) in
    let p4 = (T16 ⊕ z ⊗ T17) ⊕ w ⊗ (T18 ⊕ z ⊗ T19) in
    let p = (p0 ⊕ u ⊗ p1) ⊕ q ⊗ ((p2 ⊕ u ⊗ p3) ⊕ q ⊗ p4) in
    clamp (hi ⊕ (t ⊕ (t ⊗ z ⊗ p ⊕ lo))) 𝟎 PI

-- the angle of the point (x, y), for a y from 0 up
unfoldable pub upper : Float → Float → Float
upper y x =
    cond (lt (magnitude x) y) (katan (neg x) y PIO2 PIO2_LO)
    (cond (sign x) (katan y x PI PI_LO) (katan y x 𝟎 𝟎))

unfoldable pub angle : Float → Float → Float
angle y x =
    let v = upper (magnitude y) x in
    cond (finite y && finite x) (cond (sign y) (neg v) v) nan

abbrev pub asin : Format → Float → Float
asin w x = narrow w (arcsine x)

abbrev pub acos : Format → Float → Float
acos w x = narrow w (arccosine x)

abbrev pub atan2 : Format → Float → Float → Float
atan2 w y x = narrow w (angle y x)
