-- Next to a half turn the correction carries what points down up. The source's (0, 1, 0, 1) carries it sideways.
use Rattle.std.specs.Prelude.{◌≡◌, ◌-◌, ◌^◌, T, Float}
use Rattle.std.specs.Float.{Format}
use Rattle.std.specs.Float.Ieee.{neg, lt, le, of_bits, to_bits}
use Rattle.floats.specs.Notation.{zero, one}
use Rattle.floats.specs.Decimals.{decimal, millionth}
use Rattle.floats.specs.Order.{Within}
use Rattle.algebra.specs.Vectors.{vector}
use Rattle.algebra.specs.Quaternions.{quaternion, normalize, rotate}
use Rattle.algebra.specs.declared.vector.Vector.{Vector}
use Rattle.algebra.specs.declared.quaternion.Quaternion.{Quaternion}
use Rattle.tilt.specs.Acc.{acc_correction}

module _ (w : Format) where
  abbrev pub up : Vector
  up = vector (zero w) (zero w) (one w)

  abbrev pub down : Vector
  down = vector (zero w) (zero w) (neg (one w))

  -- half a turn about the first axis
  abbrev pub flip : Quaternion
  flip = quaternion (zero w) (one w) (zero w) (zero w)

  -- 2 * 10 ^ -6 and 1 - 2 * 10 ^ -12: sine and cosine of the angle from straight down up to which the correction is `flip`
  abbrev pub little : Float
  little = decimal w 2 (10 ^ 6)

  abbrev pub nearly_one : Float
  nearly_one = decimal w (10 ^ 12 - 2) (10 ^ 12)

  -- the next value below
  abbrev pub less_nearly_one : Float
  less_nearly_one = of_bits w (to_bits w nearly_one - 1)

  -- next to the vertical
  abbrev pub Plumb : Vector → Type 0
  Plumb v = Within v.0 (neg little) little × Within v.1 (neg little) little

  abbrev pub NearDown : Float → Type 0
  NearDown z = Within z (neg (one w)) (neg nearly_one)

  abbrev pub NearUp : Float → Type 0
  NearUp z = Within z nearly_one (one w)

  pub record HalfTurn : Type 0 where
    -- straight down goes straight up
    pub straight : rotate w flip down ≡ up
    -- what is next to straight down is corrected by `flip`; what lies further away is not: its q_w is above 10 ^ -6
    pub corrected : (v : Vector) → NearDown v.2 → acc_correction w v ≡ flip
    pub further : (v : Vector) → Within v.2 (neg less_nearly_one) (one w) → T (lt (millionth w) (acc_correction w v).0)
    -- once normalised, the correction carries it next to straight up
    pub carried : (v : Vector) → Plumb v → NearDown v.2 → let c = rotate w (normalize w (acc_correction w v)) v in Plumb c × NearUp c.2
    -- the source's turn, of length 1, leaves straight down at the horizon or below it
    pub sideways : T (le (rotate w (normalize w (quaternion (zero w) (one w) (zero w) (one w))) down).2 (zero w))
