-- Values computed from the definitions at binary64: the worked values of an averaging filter, and what the coefficients and the gain are where the source asserts.
use Rattle.std.specs.Prelude.{◌≡◌, refl, [], ◌∷◌}
use Rattle.std.specs.Float.{nan, binary64}
use Rattle.std.specs.Float.Ieee.{add, sub, mul, div, neg, lt, eq, le, of_int, round, of_bits, to_bits}
use Rattle.floats.specs.Definitions.{clamp}
use Rattle.numbers.specs.Sines.{ksin, kcos, tan}
use Rattle.numbers.specs.Exponential.{kexp, power, exponential}
use Rattle.algebra.specs.Vectors.{vector}
use Rattle.algebra.specs.Values.{whole, part}
use Rattle.filters.specs.Coefficients.{angle, coeffs, filter_coeffs, gain_from_tau}
use Rattle.filters.specs.Channels.{averaging, fresh, filter_initial_state, average, filter_channel}
use Rattle.filters.specs.Banks.{outputs, channels, filter_vec3}
use Rattle.filters.specs.declared.coeffs.Coeffs.{Coeffs}

-- interval 0.5, tau 1, any coefficients: two samples
pub values :
    (k : Coeffs)
    → let first = filter_vec3 binary64 (vector (whole 1) (whole 2) (whole 4)) (whole 1) (part 2) k (fresh ∷ fresh ∷ fresh ∷ []) in
    let second = filter_vec3 binary64 (vector (whole 3) (whole 4) (whole 8)) (whole 1) (part 2) k first.channels in
    (first.y ≡ vector (whole 1) (whole 2) (whole 4))
    × (first.channels ≡ averaging (whole 1) (whole 1) ∷ averaging (whole 1) (whole 2) ∷ averaging (whole 1) (whole 4) ∷ [])
    × (second.y ≡ vector (whole 2) (whole 3) (whole 6))
    × (second.channels ≡ filter_initial_state (whole 2) k ∷ filter_initial_state (whole 3) k ∷ filter_initial_state (whole 6) k ∷ [])
unfolding filter_vec3 outputs channels filter_channel average add mul div le of_int round of_bits
values k = (refl, refl, refl, refl)

-- tau and ts of 1 and 0, of 0 and 1, and of -1 and 1
pub coefficients_where_asserted :
    (filter_coeffs (whole 1) (whole 0) ≡ record { b0 = whole 0; b1 = whole 0; b2 = whole 0; a1 = neg (whole 2); a2 = whole 1 })
    × (filter_coeffs (whole 0) (whole 1) ≡ record { b0 = nan; b1 = nan; b2 = nan; a1 = nan; a2 = nan })
    × (filter_coeffs (neg (whole 1)) (whole 1) ≡ record { b0 = nan; b1 = nan; b2 = nan; a1 = nan; a2 = nan })
unfolding filter_coeffs angle coeffs tan ksin kcos clamp add sub mul div neg le of_int round of_bits
coefficients_where_asserted = (refl, refl, refl)

-- the same, and a tau of -0, and of no number
pub gain_where_asserted :
    (gain_from_tau binary64 (whole 1) (whole 0) ≡ whole 0)
    × (gain_from_tau binary64 (neg (whole 0)) (whole 0) ≡ whole 1)
    × (gain_from_tau binary64 (neg (whole 1)) (whole 0) ≡ whole 0)
    × (gain_from_tau binary64 (whole 1) (neg (whole 1)) ≡ nan)
    × (gain_from_tau binary64 nan (whole 1) ≡ nan)
unfolding gain_from_tau exponential kexp power clamp add sub mul div neg lt eq le of_int round of_bits to_bits
gain_where_asserted = (refl, refl, refl, refl, refl)
