-- The setters of the magnetic half, over the format w.
use Rattle.std.specs.Prelude.{cond, ◌&&◌, Float}
use Rattle.std.specs.Float.{Format}
use Rattle.std.specs.Float.Ieee.Scale.{finite}
use Rattle.filters.specs.Coefficients.{gain_from_tau}
use Rattle.limits.specs.Answers.{Told, told}
use Rattle.limits.specs.Limits.{gain_tau_taken, ref_norm_taken, ref_dip_taken}
use Rattle.magnetic.specs.Told.{norm_dip, state_of, with_state, with_reference}
use Rattle.magnetic.specs.Setup.{restarted_field, fresh_state}
use Rattle.magnetic.specs.declared.types.Magnetic.{Magnetic}
use Rattle.magnetic.specs.declared.types.MagneticCoefficients.{MagneticCoefficients}
use Rattle.magnetic.specs.declared.types.MagneticParams.{MagneticParams}

abbrev pub with_tau_mag : MagneticParams → Float → MagneticParams
with_tau_mag p tau = record p { tau_mag = tau }

abbrev pub with_k_mag : MagneticCoefficients → Float → MagneticCoefficients
with_k_mag c k = record c { k_mag = k }

module _ (w : Format) where
  unfoldable pub set_tau_mag : Magnetic → Float → Told Magnetic
  set_tau_mag f tau =
      let k = gain_from_tau w tau f.coeffs.mag_ts in
      cond (gain_tau_taken w tau)
      (cond (finite k)
      (told 0 (record { params = with_tau_mag f.params tau; coeffs = with_k_mag f.coeffs k; state = f.state }))
      (told 6 f))
      (told 4 f)

  unfoldable pub set_mag_ref : Magnetic → Float → Float → Told Magnetic
  set_mag_ref f norm dip =
      let g = f.state.field in
      cond (ref_norm_taken w norm && ref_dip_taken w dip)
      (told 0 (with_state f (state_of f.state.heading (with_reference g g.mag_dist_detected (norm_dip norm dip) g.mag_undisturbed_t))))
      (told 4 f)

  -- what a change of the disturbance switch leaves
  unfoldable pub restarted : Magnetic → Magnetic
  restarted f = with_state f (state_of f.state.heading (restarted_field w f.params f.state.field.mag_norm_dip))

  unfoldable pub reset_state : Magnetic → Magnetic
  reset_state f = with_state f (fresh_state w f.params)
