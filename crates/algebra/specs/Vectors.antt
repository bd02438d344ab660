-- Three components, and the source's helpers for an array of three, over the format w.
use Rattle.std.specs.Prelude.{Bool, ◌&&◌, cond, List, [], ◌∷◌, get_or, Float}
use Rattle.std.specs.Float.{nan, Format}
use Rattle.std.specs.Float.Ieee.{lt}
use Rattle.std.specs.Float.Ieee.Scale as scale
use Rattle.floats.specs.Notation.{rounded, constant, zero}
use Rattle.numbers.specs.Root.{root}
use Rattle.algebra.specs.declared.vector.Vector.{Vector}

-- the source's EPSILON: 2 ^ -23 and 2 ^ -52
abbrev pub epsilon : Format → Float
epsilon = constant 0x3400_0000 0x3cb0_0000_0000_0000

abbrev pub vector : Float → Float → Float → Vector
vector x y z = record { 0 = x; 1 = y; 2 = z }

abbrev pub origin : Format → Vector
origin w = vector (zero w) (zero w) (zero w)

abbrev pub components : Vector → List Float
components v = v.0 ∷ v.1 ∷ v.2 ∷ []

abbrev pub of_components : List Float → Vector
of_components xs = vector (get_or xs 0 nan) (get_or xs 1 nan) (get_or xs 2 nan)

-- component by component
abbrev pub each : (Float → Float) → Vector → Vector
each f v = vector (f v.0) (f v.1) (f v.2)

abbrev pub both : (Float → Float → Float) → Vector → Vector → Vector
both f u v = vector (f u.0 v.0) (f u.1 v.1) (f u.2 v.2)

module _ (w : Format) where
  open rounded w use {◌⊕◌, ◌⊖◌, ◌⊗◌, ◌⊘◌}

  unfoldable pub norm : Vector → Float
  norm v = root w (zero w ⊕ v.0 ⊗ v.0 ⊕ v.1 ⊗ v.1 ⊕ v.2 ⊗ v.2)

  -- a NaN for a norm goes on
  unfoldable pub normalize : Vector → Vector
  normalize v = let n = norm v in cond (lt n (epsilon w)) v (each (λ x. x ⊘ n) v)

unfoldable pub clipped : Float → Float → Float → Float
clipped x min max = cond (lt x min) min (cond (lt max x) max x)

unfoldable pub clip : Vector → Float → Float → Vector
clip v min max = each (λ x. clipped x min max) v

unfoldable pub finite : Vector → Bool
finite v = scale.finite v.0 && scale.finite v.1 && scale.finite v.2
