-- Angles as a person reads them, over the format w.
use Rattle.std.specs.Prelude.{Bool, cond, ◌&&◌, Option, Some, None, from_bits, Float}
use Rattle.std.specs.Float.{Format, binary64}
use Rattle.std.specs.Float.Ieee.{lt, neg, to_unsigned}
use Rattle.floats.specs.Notation.{rounded, zero, half, one, pi}
use Rattle.floats.specs.Decimals.{ten, half_turn}
use Rattle.floats.specs.Definitions.{magnitude, clamp}
use Rattle.numbers.specs.Arcs.{acos, atan2}
use Rattle.algebra.specs.Vectors.{vector}
use Rattle.algebra.specs.Quaternions.{rotate}
use Rattle.algebra.specs.declared.quaternion.Quaternion.{Quaternion}
use Rattle.readable.specs.declared.Tenths.{Tenths}

-- 2 ^ 64
abbrev beyond : Float
beyond = from_bits binary64 0x43f0_0000_0000_0000

-- the whole part of y, with a sign, where 64 bits hold it
unfoldable pub signed : Bool → Float → Option Tenths
signed is_below y =
    cond (lt (neg (one binary64)) y && lt y beyond) (Some (record { below = is_below; tenths = to_unsigned 64 y })) None

module _ (w : Format) where
  open rounded w use {◌⊕◌, ◌⊗◌, ◌⊘◌}

  unfoldable pub degrees : Float → Float
  degrees radians = radians ⊗ half_turn w ⊘ pi w

  -- how far the third axis is from straight up
  unfoldable pub tilt : Quaternion → Float
  tilt q = degrees (acos w (clamp (rotate w q (vector (zero w) (zero w) (one w))).2 (neg (one w)) (one w)))

  -- where the first axis points, seen from above, counter-clockwise from the reference's first axis
  unfoldable pub heading : Quaternion → Float
  heading q = let ahead = rotate w q (vector (one w) (zero w) (zero w)) in degrees (atan2 w ahead.1 ahead.0)

  -- to the nearest tenth, but for what two roundings move; a half goes away from zero
  unfoldable pub to_tenths : Float → Option Tenths
  to_tenths x = signed (lt x (zero w)) (magnitude x ⊗ ten w ⊕ half w)
