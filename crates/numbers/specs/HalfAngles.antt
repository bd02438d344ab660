-- How large half the angle of a gyro step gets, over the format w: sine and cosine are given there. The proof is in proofs/HalfAngles.antt.
use Rattle.std.specs.Prelude.{T, Float}
use Rattle.std.specs.Float.{Format}
use Rattle.std.specs.Float.Ieee.{neg, le}
use Rattle.floats.specs.Notation.{rounded, zero, one, two, pi}
use Rattle.floats.specs.Decimals.{two_hundred}
use Rattle.floats.specs.Order.{Within}
use Rattle.numbers.specs.Constants.{ANGLE_LIMIT}
use Rattle.numbers.specs.Root.{root}

module _ (w : Format) where
  open rounded w use {◌⊕◌, ◌⊗◌, ◌⊘◌}

  -- of a turn at the rate (x, y, z) for ts
  abbrev pub half_angle : Float → Float → Float → Float → Float
  half_angle x y z ts = root w (zero w ⊕ x ⊗ x ⊕ y ⊗ y ⊕ z ⊗ z) ⊗ ts ⊘ two w

  -- 200 rad/s, and a bias of a quarter turn a second the other way
  abbrev pub fastest : Float
  fastest = two_hundred w ⊕ pi w ⊘ two w

  abbrev pub largest : Float
  largest = half_angle fastest fastest fastest (one w)

  pub record HalfAngles : Type 0 where
    -- every rounding included
    pub up_to_largest :
        (x y z ts : Float)
        → Within x (neg fastest) fastest → Within y (neg fastest) fastest → Within z (neg fastest) fastest → Within ts (zero w) (one w)
        → Within (half_angle x y z ts) (zero w) largest
    pub largest_served : T (le largest ANGLE_LIMIT)
