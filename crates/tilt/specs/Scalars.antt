-- What the steps do to one number, over the format w.
use Rattle.std.specs.Prelude.{Float}
use Rattle.std.specs.Float.{Format}
use Rattle.floats.specs.Notation.{rounded, pi}
use Rattle.floats.specs.Decimals.{half_turn}

module _ (w : Format) where
  open rounded w use {◌⊗◌, ◌⊘◌}

  abbrev pub square : Float → Float
  square x = x ⊗ x

  abbrev pub radians : Float → Float
  radians degrees = degrees ⊗ (pi w ⊘ half_turn w)
