-- Where each function is given, and what it keeps to: its domain, and its range in the format w. The proofs are in proofs/Ranges.antt.
use Rattle.std.specs.Prelude.{◌≡◌, not, ◌&&◌, T, is_nan, Float}
use Rattle.std.specs.Float.{Format}
use Rattle.std.specs.Float.Ieee.{neg}
use Rattle.std.specs.Float.Ieee.Scale.{finite}
use Rattle.floats.specs.Notation.{zero, one, pi}
use Rattle.floats.specs.Decimals.{half_pi}
use Rattle.floats.specs.Order.{Within}
use Rattle.numbers.specs.Constants.{𝟎, 𝟏, between, ANGLE_LIMIT, TAN_LIMIT, EXP_LIMIT}
use Rattle.numbers.specs.Sines.{sin, cos, tan}
use Rattle.numbers.specs.Exponential.{exp}
use Rattle.numbers.specs.Arcs.{asin, acos, atan2}

-- f is given from lo to hi and nowhere else: there it lies within least and most, and elsewhere it is a NaN
pub record GivenFrom (lo hi : Float) (f : Float → Float) (least most : Float) : Type 0 where
  pub within : (x : Float) → Within x lo hi → Within (f x) least most
  pub domain : (x : Float) → is_nan (f x) ≡ not (between x lo hi)

-- the tangent, which the filter's coefficients are made of, is binary64 whatever the format is
pub record Ranges (w : Format) : Type 0 where
  pub sin : GivenFrom (neg ANGLE_LIMIT) ANGLE_LIMIT (sin w) (neg (one w)) (one w)
  pub cos : GivenFrom (neg ANGLE_LIMIT) ANGLE_LIMIT (cos w) (neg (one w)) (one w)
  pub tan : GivenFrom 𝟎 TAN_LIMIT tan 𝟎 𝟏
  pub exp : GivenFrom (neg EXP_LIMIT) 𝟎 (exp w) (zero w) (one w)
  pub asin : GivenFrom (neg 𝟏) 𝟏 (asin w) (neg (half_pi w)) (half_pi w)
  pub acos : GivenFrom (neg 𝟏) 𝟏 (acos w) (zero w) (pi w)
  pub atan2_within : (y x : Float) → T (finite y) → T (finite x) → Within (atan2 w y x) (neg (pi w)) (pi w)
  pub atan2_domain : (y x : Float) → is_nan (atan2 w y x) ≡ not (finite y && finite x)
