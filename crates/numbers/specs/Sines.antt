-- Sine, cosine and tangent: fixed orders of binary64 operations. At another format the result is rounded once more.
use Rattle.std.specs.Prelude.{cond, Float}
use Rattle.std.specs.Float.{nan, Format, binary64}
use Rattle.std.specs.Float.Ieee.{neg, eq}
use Rattle.floats.specs.Notation.{rounded, narrow}
use Rattle.floats.specs.Definitions.{clamp}
use Rattle.numbers.specs.Constants.{𝟎, 𝟏, HALF, between, ANGLE_LIMIT, TAN_LIMIT, NEAR, TWO_OVER_PI, P1, P2, P3, MAGIC, FOUR, QUARTER, S0, S1, S2, S3, S4, S5, C0, C1, C2, C3, C4, C5}
use Rattle.numbers.specs.declared.sines.Reduced.{Reduced}
open rounded binary64 use {◌⊕◌, ◌⊖◌, ◌⊗◌, ◌⊘◌}

-- ---- the kernels: sine and cosine of r - d, for an r within ±0.7855 and a d that is small beside it
unfoldable pub ksin : Float → Float → Float
ksin r d =
    let z = r ⊗ r in
    let w = z ⊗ z in
    let p = (S0 ⊕ z ⊗ S1) ⊕ w ⊗ ((S2 ⊕ z ⊗ S3) ⊕ w ⊗ (S4 ⊕ z ⊗ S5)) in
    r ⊖ (d ⊕ r ⊗ z ⊗ p)

unfoldable pub kcos : Float → Float → Float
kcos r d =
    let z = r ⊗ r in
    let w = z ⊗ z in
    let p = (C0 ⊕ z ⊗ C1) ⊕ w ⊗ ((C2 ⊕ z ⊗ C3) ⊕ w ⊗ (C4 ⊕ z ⊗ C5)) in
    𝟏 ⊖ (HALF ⊗ z ⊖ (w ⊗ p ⊕ r ⊗ d))

-- ---- an angle as k quarter turns and r - d: k is the whole number nearest to x * 2 / pi, and m is k mod 4, from -2 to 2
unfoldable pub reduce : Float → Reduced
reduce x =
    let k = x ⊗ TWO_OVER_PI ⊕ MAGIC ⊖ MAGIC in
    let a = x ⊖ k ⊗ P1 in
    let b = k ⊗ P2 in
    let r = a ⊖ b in
    record {
      m = k ⊖ FOUR ⊗ (k ⊗ QUARTER ⊕ MAGIC ⊖ MAGIC);
      r = r;
      d = k ⊗ P3 ⊕ (b ⊖ (a ⊖ r));
    }

-- sine and cosine of an angle so written
unfoldable pub sine_of : Reduced → Float
sine_of t =
    let s = ksin t.r t.d in
    let c = kcos t.r t.d in
    cond (eq t.m 𝟎) s (cond (eq t.m 𝟏) c (cond (eq t.m (neg 𝟏)) (neg c) (neg s)))

unfoldable pub cosine_of : Reduced → Float
cosine_of t =
    let s = ksin t.r t.d in
    let c = kcos t.r t.d in
    cond (eq t.m 𝟎) c (cond (eq t.m 𝟏) (neg s) (cond (eq t.m (neg 𝟏)) s (neg c)))

-- ---- the recipes
unfoldable pub sine : Float → Float
sine x =
    cond (between x (neg NEAR) NEAR) (clamp (ksin x 𝟎) (neg 𝟏) 𝟏)
    (cond (between x (neg ANGLE_LIMIT) ANGLE_LIMIT) (clamp (sine_of (reduce x)) (neg 𝟏) 𝟏) nan)

unfoldable pub cosine : Float → Float
cosine x =
    cond (between x (neg NEAR) NEAR) (clamp (kcos x 𝟎) (neg 𝟏) 𝟏)
    (cond (between x (neg ANGLE_LIMIT) ANGLE_LIMIT) (clamp (cosine_of (reduce x)) (neg 𝟏) 𝟏) nan)

unfoldable pub tan : Float → Float
tan x = cond (between x 𝟎 TAN_LIMIT) (clamp (ksin x 𝟎 ⊘ kcos x 𝟎) 𝟎 𝟏) nan

abbrev pub sin : Format → Float → Float
sin w x = narrow w (sine x)

abbrev pub cos : Format → Float → Float
cos w x = narrow w (cosine x)
