-- Whether every number that the magnetic half stores is finite, group by group. Flags are no numbers.
use Rattle.std.specs.Prelude.{Bool, true, ◌&&◌, Option, None, Some}
use Rattle.std.specs.Float.Ieee.Scale.{finite}
use Rattle.filters.specs.Coefficients.{finite_coeffs}
use Rattle.filters.specs.declared.coeffs.Coeffs.{Coeffs}
use Rattle.magnetic.specs.Fields.{finite_field}
use Rattle.magnetic.specs.Headings.{finite_heading}
use Rattle.magnetic.specs.declared.types.Magnetic.{Magnetic}
use Rattle.magnetic.specs.declared.types.MagneticCoefficients.{MagneticCoefficients}
use Rattle.magnetic.specs.declared.types.MagneticParams.{MagneticParams}
use Rattle.magnetic.specs.declared.types.MagneticState.{MagneticState}

unfoldable pub finite_params : MagneticParams → Bool
finite_params p =
    finite p.tau_mag
    && finite p.mag_current_tau
    && finite p.mag_ref_tau
    && finite p.mag_norm_th
    && finite p.mag_dip_th
    && finite p.mag_new_time
    && finite p.mag_new_first_time
    && finite p.mag_new_min_gyr
    && finite p.mag_min_undisturbed_time
    && finite p.mag_max_rejection_time
    && finite p.mag_rejection_factor

unfoldable pub finite_smoothing : Option Coeffs → Bool
finite_smoothing None = true
finite_smoothing (Some k) = finite_coeffs k

unfoldable pub finite_coefficients : MagneticCoefficients → Bool
finite_coefficients c = finite c.mag_ts && finite c.k_mag && finite c.k_mag_ref && finite_smoothing c.mag_norm_dip_lp

unfoldable pub finite_state : MagneticState → Bool
finite_state s = finite_heading s.heading && finite_field s.field

unfoldable pub all_finite : Magnetic → Bool
all_finite f = finite_params f.params && finite_coefficients f.coeffs && finite_state f.state
