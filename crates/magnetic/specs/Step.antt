-- The magnetometer step, over the format w.
use Rattle.std.specs.Prelude.{cond, ◌&&◌}
use Rattle.std.specs.Float.{Format}
use Rattle.numbers.specs.Arcs.{atan2}
use Rattle.algebra.specs.Quaternions.{rotate}
use Rattle.algebra.specs.declared.vector.Vector.{Vector}
use Rattle.limits.specs.Answers.{Told, told}
use Rattle.limits.specs.declared.updated.Tried.{Tried}
use Rattle.limits.specs.Limits.{mag_taken, zero_sample}
use Rattle.magnetic.specs.Told.{state_of, with_state}
use Rattle.magnetic.specs.Fields.{field_step, finite_field}
use Rattle.magnetic.specs.Headings.{rejected, corrected, finite_heading}
use Rattle.magnetic.specs.declared.types.Magnetic.{Magnetic}
use Rattle.magnetic.specs.declared.types.MagneticState.{MagneticState}
use Rattle.magnetic.specs.declared.types.MagneticParams.{MagneticParams}
use Rattle.magnetic.specs.declared.types.MagneticCoefficients.{MagneticCoefficients}
use Rattle.magnetic.specs.declared.types.Seen.{Seen}

module _ (w : Format) where
  unfoldable pub tried_rejecting : MagneticState → MagneticParams → MagneticCoefficients → Vector → Vector → Tried MagneticState
  tried_rejecting s p c mag_earth gyr_lp =
      let r = rejected w (field_step w s.field p c mag_earth gyr_lp) p c in
      let h = corrected w s.heading (atan2 w mag_earth.0 mag_earth.1) r.k p.tau_mag c.mag_ts in
      record { finite = finite_field r.field && finite_heading h; value = state_of h r.field }

  unfoldable pub tried_plain : MagneticState → MagneticParams → MagneticCoefficients → Vector → Tried MagneticState
  tried_plain s p c mag_earth =
      let h = corrected w s.heading (atan2 w mag_earth.0 mag_earth.1) c.k_mag p.tau_mag c.mag_ts in
      record { finite = finite_heading h; value = state_of h s.field }

  unfoldable pub tried : MagneticState → MagneticParams → MagneticCoefficients → Seen → Vector → Tried MagneticState
  tried s p c seen mag =
      let mag_earth = rotate w seen.quat_6d mag in
      cond seen.mag_dist_rejection_enabled (tried_rejecting s p c mag_earth seen.rest_last_gyr_lp) (tried_plain s p c mag_earth)

  unfoldable pub mag_step : Magnetic → Seen → Vector → Told Magnetic
  mag_step f seen mag =
      let t = tried f.state f.params f.coeffs seen mag in
      cond t.finite (told 0 (with_state f t.value)) (told 6 f)

  unfoldable pub update_mag : Magnetic → Seen → Vector → Told Magnetic
  update_mag f seen mag = cond (mag_taken w mag) (cond (zero_sample w mag) (told 1 f) (mag_step f seen mag)) (told 2 f)
