-- The coefficients of a Butterworth filter of second order, binary64 whatever the format of tau and ts, and the gain of a filter of first order, over the format w.
use Rattle.std.specs.Prelude.{Bool, ◌&&◌, cond, Float}
use Rattle.std.specs.Float.{Format, binary64}
use Rattle.std.specs.Float.Ieee.{of_bits, neg, lt, eq}
use Rattle.std.specs.Float.Ieee.Scale.{finite}
use Rattle.floats.specs.Notation.{rounded, zero, one, two, wide}
use Rattle.numbers.specs.Constants.{𝟏, PI}
use Rattle.numbers.specs.Sines.{tan}
use Rattle.numbers.specs.Exponential.{exp}
use Rattle.filters.specs.declared.coeffs.Coeffs.{Coeffs}

module _ (w : Format) where
  open rounded w use {◌⊕◌, ◌⊖◌, ◌⊗◌, ◌⊘◌}

  unfoldable pub gain_from_tau : Float → Float → Float
  gain_from_tau tau ts = cond (lt tau (zero w)) (zero w) (cond (eq tau (zero w)) (one w) (one w ⊖ exp w (neg ts ⊘ tau)))

open rounded binary64 use {◌⊕◌, ◌⊖◌, ◌⊗◌, ◌⊘◌}

abbrev pub 𝟐 : Float
𝟐 = two binary64

abbrev pub SQRT_2 : Float
SQRT_2 = of_bits binary64 0x3ff6_a09e_667f_3bcd

-- what the tangent is taken of
unfoldable pub angle : Float → Float → Float
angle tau ts =
    let fc = (SQRT_2 ⊘ (𝟐 ⊗ PI)) ⊘ wide tau in
    PI ⊗ fc ⊗ wide ts

-- from the tangent
unfoldable pub coeffs : Float → Coeffs
coeffs c =
    let d = c ⊗ c ⊕ SQRT_2 ⊗ c ⊕ 𝟏 in
    let b0 = c ⊗ c ⊘ d in
    record { b0 = b0; b1 = 𝟐 ⊗ b0; b2 = b0; a1 = 𝟐 ⊗ (c ⊗ c ⊖ 𝟏) ⊘ d; a2 = (𝟏 ⊖ SQRT_2 ⊗ c ⊕ c ⊗ c) ⊘ d }

unfoldable pub filter_coeffs : Float → Float → Coeffs
filter_coeffs tau ts = coeffs (tan (angle tau ts))

unfoldable pub finite_coeffs : Coeffs → Bool
finite_coeffs k = finite k.b0 && finite k.b1 && finite k.b2 && finite k.a1 && finite k.a2
