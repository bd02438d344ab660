-- How the definitions write a rounded operation and a constant, so that a line of a definition reads like the source's line at any format.
-- `open rounded w use {◌⊕◌, ◌⊖◌, ◌⊗◌, ◌⊘◌}` in a section over the format w brings the four operations.
use Rattle.std.specs.Prelude.{ℕ, ◌*◌, Float}
use Rattle.std.specs.Float.{nan, inf, fin, Format, binary32, binary64}
use Rattle.std.specs.Float.Ieee.{up, down, round, add, sub, mul, div, of_bits}

pub record Rounded : Type 0 where
  infixl 60 ◌⊕◌
  infixl 60 ◌⊖◌
  infixl 70 ◌⊗◌
  infixl 70 ◌⊘◌
  pub ◌⊕◌ : Float → Float → Float
  pub ◌⊖◌ : Float → Float → Float
  pub ◌⊗◌ : Float → Float → Float
  pub ◌⊘◌ : Float → Float → Float

abbrev pub rounded : Format → Rounded
rounded w = record { ◌⊕◌ = add w; ◌⊖◌ = sub w; ◌⊗◌ = mul w; ◌⊘◌ = div w }

-- a constant, by its bits in each format: a literal of the code is `of_bits` of its pattern
abbrev pub constant : ℕ → ℕ → Format → Float
constant b32 b64 binary32 = of_bits binary32 b32
constant b32 b64 binary64 = of_bits binary64 b64

abbrev pub zero : Format → Float
zero = constant 0 0

abbrev pub half : Format → Float
half = constant 0x3f00_0000 0x3fe0_0000_0000_0000

abbrev pub one : Format → Float
one = constant 0x3f80_0000 0x3ff0_0000_0000_0000

abbrev pub two : Format → Float
two = constant 0x4000_0000 0x4000_0000_0000_0000

-- the values nearest to π
abbrev pub pi : Format → Float
pi = constant 0x4049_0fdb 0x4009_21fb_5444_2d18

-- the source's casts from `Float` to `f64` and back. One type of values serves both formats, so the first changes nothing; the second rounds to the format
abbrev pub wide : Float → Float
wide x = x

abbrev pub single : Float → Float
single nan = nan
single (inf s) = inf s
single (fin s m e) = round binary32 s (m * up e) (down e)

abbrev pub narrow : Format → Float → Float
narrow binary32 x = single x
narrow binary64 x = x
