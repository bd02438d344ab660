-- How far a bias can go, and what is told of a variance, over the format w.
use Rattle.std.specs.Prelude.{Float}
use Rattle.std.specs.Float.{Format}
use Rattle.std.specs.Float.Ieee.{neg}
use Rattle.floats.specs.Notation.{rounded, pi}
use Rattle.floats.specs.Decimals.{hundred, half_turn}
use Rattle.floats.specs.Order.{Within}
use Rattle.numbers.specs.Root.{root}
use Rattle.algebra.specs.declared.vector.Vector.{Vector}

-- each component within ±c
abbrev pub AllWithin : Float → Vector → Type 0
AllWithin c v = Within v.0 (neg c) c × Within v.1 (neg c) c × Within v.2 (neg c) c

module _ (w : Format) where
  open rounded w use {◌⊗◌, ◌⊘◌}

  abbrev pub sigma_of : Float → Float
  sigma_of p = root w p ⊗ (pi w ⊘ hundred w ⊘ half_turn w)
