-- Quaternions, over the format w.
use Rattle.std.specs.Prelude.{Bool, ◌&&◌, cond, Float}
use Rattle.std.specs.Float.{Format}
use Rattle.std.specs.Float.Ieee.{lt}
use Rattle.std.specs.Float.Ieee.Scale as scale
use Rattle.floats.specs.Notation.{rounded, zero, one, two}
use Rattle.numbers.specs.Root.{root}
use Rattle.numbers.specs.Sines.{sin, cos}
use Rattle.algebra.specs.Vectors.{epsilon, vector}
use Rattle.algebra.specs.declared.vector.Vector.{Vector}
use Rattle.algebra.specs.declared.quaternion.Quaternion.{Quaternion}

abbrev pub quaternion : Float → Float → Float → Float → Quaternion
quaternion w x y z = record { 0 = w; 1 = x; 2 = y; 3 = z }

module _ (w : Format) where
  open rounded w use {◌⊕◌, ◌⊖◌, ◌⊗◌, ◌⊘◌}

  abbrev pub identity : Quaternion
  identity = quaternion (one w) (zero w) (zero w) (zero w)

  unfoldable pub times : Quaternion → Quaternion → Quaternion
  times q r =
      quaternion
      (q.0 ⊗ r.0 ⊖ q.1 ⊗ r.1 ⊖ q.2 ⊗ r.2 ⊖ q.3 ⊗ r.3)
      (q.0 ⊗ r.1 ⊕ q.1 ⊗ r.0 ⊕ q.2 ⊗ r.3 ⊖ q.3 ⊗ r.2)
      (q.0 ⊗ r.2 ⊖ q.1 ⊗ r.3 ⊕ q.2 ⊗ r.0 ⊕ q.3 ⊗ r.1)
      (q.0 ⊗ r.3 ⊕ q.1 ⊗ r.2 ⊖ q.2 ⊗ r.1 ⊕ q.3 ⊗ r.0)

  unfoldable pub norm : Quaternion → Float
  norm q = root w (q.0 ⊗ q.0 ⊕ q.1 ⊗ q.1 ⊕ q.2 ⊗ q.2 ⊕ q.3 ⊗ q.3)

  -- a NaN for a norm goes on
  unfoldable pub normalize : Quaternion → Quaternion
  normalize q = let n = norm q in cond (lt n (epsilon w)) q (quaternion (q.0 ⊘ n) (q.1 ⊘ n) (q.2 ⊘ n) (q.3 ⊘ n))

  unfoldable pub rotate : Quaternion → Vector → Vector
  rotate q v =
      vector
      ((one w ⊖ two w ⊗ q.2 ⊗ q.2 ⊖ two w ⊗ q.3 ⊗ q.3) ⊗ v.0
      ⊕ two w ⊗ v.1 ⊗ (q.2 ⊗ q.1 ⊖ q.0 ⊗ q.3)
      ⊕ two w ⊗ v.2 ⊗ (q.0 ⊗ q.2 ⊕ q.3 ⊗ q.1))
      (two w ⊗ v.0 ⊗ (q.0 ⊗ q.3 ⊕ q.2 ⊗ q.1)
      ⊕ v.1 ⊗ (one w ⊖ two w ⊗ q.1 ⊗ q.1 ⊖ two w ⊗ q.3 ⊗ q.3)
      ⊕ two w ⊗ v.2 ⊗ (q.2 ⊗ q.3 ⊖ q.1 ⊗ q.0))
      (two w ⊗ v.0 ⊗ (q.3 ⊗ q.1 ⊖ q.0 ⊗ q.2)
      ⊕ two w ⊗ v.1 ⊗ (q.0 ⊗ q.1 ⊕ q.3 ⊗ q.2)
      ⊕ v.2 ⊗ (one w ⊖ two w ⊗ q.1 ⊗ q.1 ⊖ two w ⊗ q.2 ⊗ q.2))

  unfoldable pub apply_delta : Quaternion → Float → Quaternion
  apply_delta q delta =
      let c = cos w (delta ⊘ two w) in
      let s = sin w (delta ⊘ two w) in
      quaternion
      (c ⊗ q.0 ⊖ s ⊗ q.3)
      (c ⊗ q.1 ⊖ s ⊗ q.2)
      (c ⊗ q.2 ⊕ s ⊗ q.1)
      (c ⊗ q.3 ⊕ s ⊗ q.0)

unfoldable pub finite : Quaternion → Bool
finite q = scale.finite q.0 && scale.finite q.1 && scale.finite q.2 && scale.finite q.3
