-- That all numbers of a half are finite says it of each part, under the part's name.
use Rattle.floats.specs.Prelude.{T, finite}
use Rattle.floats.specs.Tests.{both}
use Rattle.magnetic.specs.AllFinite.{finite_params, finite_smoothing, finite_coefficients, finite_state, all_finite}
use Rattle.magnetic.specs.Fields.{finite_field}
use Rattle.magnetic.specs.Headings.{finite_heading}
use Rattle.magnetic.specs.Types.{Field, Magnetic, MagneticCoefficients, MagneticParams}

pub record Parts (f : Magnetic) : Type 0 where
  pub params : T (finite_params f.params)
  pub coeffs : T (finite_coefficients f.coeffs)
  pub heading : T (finite_heading f.state.heading)
  pub field : T (finite_field f.state.field)

pub parts : (f : Magnetic) → T (all_finite f) → Parts f
unfolding all_finite finite_state
parts f h = let k = simp both at h in record { params = k.0.0; coeffs = k.0.1; heading = k.1.0; field = k.1.1 }

pub whole : (f : Magnetic) → Parts f → T (all_finite f)
unfolding all_finite finite_state
whole f k = simp both ((k.params, k.coeffs), (k.heading, k.field))

pub record CoefficientParts (c : MagneticCoefficients) : Type 0 where
  pub interval : T (finite c.mag_ts)
  pub gain : T (finite c.k_mag)
  pub gain_ref : T (finite c.k_mag_ref)
  pub smoothing : T (finite_smoothing c.mag_norm_dip_lp)

pub coefficient_parts : (c : MagneticCoefficients) → T (finite_coefficients c) → CoefficientParts c
unfolding finite_coefficients
coefficient_parts c h = let k = simp both at h in record { interval = k.0.0.0; gain = k.0.0.1; gain_ref = k.0.1; smoothing = k.1 }

-- the first of eleven
pub tau_mag_finite : (p : MagneticParams) → T (finite_params p) → T (finite p.tau_mag)
unfolding finite_params
tau_mag_finite p h = (simp both at h).0.0.0.0.0.0.0.0.0.0

pub record FieldParts (f : Field) : Type 0 where
  pub ref_norm : T (finite f.mag_ref_norm)
  pub ref_dip : T (finite f.mag_ref_dip)
  pub norm : T (finite f.mag_norm_dip.0)
  pub dip : T (finite f.mag_norm_dip.1)

pub field_parts : (f : Field) → T (finite_field f) → FieldParts f
unfolding finite_field
field_parts f h =
    let k = simp both at h in
    let r = k.0.0.0.0.0.0.0.0 in
    record { ref_norm = r.0; ref_dip = r.1; norm = k.0.0.1; dip = k.0.1 }
