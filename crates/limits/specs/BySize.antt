-- What lies within ±limit, told by size: nothing is a NaN, and nothing is in size beyond the limit. The proof is in proofs/BySize.antt.
use Rattle.std.specs.Prelude.{◌≡◌, Bool, not, ◌&&◌, ◌||◌, T, Float}
use Rattle.std.specs.Float.Ieee.{neg, lt}
use Rattle.floats.specs.Definitions.{magnitude}
use Rattle.floats.specs.Order.{number}
use Rattle.algebra.specs.declared.vector.Vector.{Vector}
use Rattle.limits.specs.Limits.{within, all_within}

-- the source's `fabs(x) > limit`
abbrev pub beyond : Float → Float → Bool
beyond limit x = lt limit (magnitude x)

abbrev pub all_numbers : Vector → Bool
all_numbers v = number v.0 && number v.1 && number v.2

pub record BySize : Type 0 where
  pub one : (limit x : Float) → T (number limit) → within (neg limit) limit x ≡ (number x && not (beyond limit x))
  pub all :
      (limit : Float) (v : Vector) → T (number limit)
      → all_within limit v ≡ (all_numbers v && not (beyond limit v.0 || beyond limit v.1 || beyond limit v.2))
