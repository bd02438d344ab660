-- What the filter's numbers keep to, rounding included, for every tau and ts that the reader takes in the format w. The proofs are in proofs/Bounds.antt.
use Rattle.std.specs.Prelude.{◌≡◌, ◌⊎◌, false, T, Float}
use Rattle.std.specs.Float.{nan, Format}
use Rattle.std.specs.Float.Ieee.{neg}
use Rattle.std.specs.Float.Ieee.Scale.{finite}
use Rattle.floats.specs.Notation.{zero, one}
use Rattle.floats.specs.Decimals.{ten_thousand, ten_thousandth}
use Rattle.floats.specs.Order.{Within}
use Rattle.numbers.specs.Constants.{𝟎, 𝟏, between, TAN_LIMIT}
use Rattle.filters.specs.Coefficients.{𝟐, angle, filter_coeffs, finite_coeffs, gain_from_tau}
use Rattle.filters.specs.declared.coeffs.Coeffs.{Coeffs}

module _ (w : Format) where
  abbrev pub Interval : Float → Type 0
  Interval ts = Within ts (ten_thousandth w) (one w)

  -- a filter's tau, and a gain's
  abbrev pub Constant : Float → Float → Type 0
  Constant tau ts = Within tau ts (ten_thousand w)

  abbrev pub GainConstant : Float → Type 0
  GainConstant tau = Within tau (neg (ten_thousand w)) (zero w) ⊎ Within tau (ten_thousandth w) (ten_thousand w)

  abbrev pub Gain : Float → Type 0
  Gain k = Within k (zero w) (one w)

-- each coefficient lies within -2 and 2
abbrev pub Bounded : Coeffs → Type 0
Bounded k = Within k.b0 𝟎 𝟏 × Within k.b1 𝟎 𝟐 × Within k.b2 𝟎 𝟏 × Within k.a1 (neg 𝟐) 𝟎 × Within k.a2 (neg 𝟐) 𝟐

pub record Bounds (w : Format) : Type 0 where
  -- the angle is what the tangent is taken of
  pub angle_within : (tau ts : Float) → Interval w ts → Constant w tau ts → Within (angle tau ts) 𝟎 TAN_LIMIT
  pub filter_coeffs_within : (tau ts : Float) → Interval w ts → Constant w tau ts → Bounded (filter_coeffs tau ts)
  pub filter_coeffs_finite : (tau ts : Float) → Interval w ts → Constant w tau ts → T (finite_coeffs (filter_coeffs tau ts))
  -- no tau and ts that are taken bring this about
  pub filter_coeffs_outside : (tau ts : Float) → between (angle tau ts) 𝟎 TAN_LIMIT ≡ false → filter_coeffs tau ts ≡ record { b0 = nan; b1 = nan; b2 = nan; a1 = nan; a2 = nan }
  pub gain_within : (tau ts : Float) → Interval w ts → GainConstant w tau → Gain w (gain_from_tau w tau ts)
  pub gain_finite : (tau ts : Float) → Interval w ts → GainConstant w tau → T (finite (gain_from_tau w tau ts))
