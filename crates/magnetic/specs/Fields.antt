-- What a magnetometer sample tells of the field, over the format w.
use Rattle.std.specs.Prelude.{Bool, true, false, cond, ◌&&◌, ◌||◌, [], ◌∷◌, get_or, Option, None, Some, Float}
use Rattle.std.specs.Float.{nan, Format}
use Rattle.std.specs.Float.Ieee.{neg, lt, le, eq}
use Rattle.std.specs.Float.Ieee.Scale.{finite}
use Rattle.floats.specs.Notation.{rounded, zero, pi}
use Rattle.floats.specs.Decimals.{half_turn}
use Rattle.floats.specs.Definitions.{magnitude}
use Rattle.numbers.specs.Arcs.{asin}
use Rattle.algebra.specs.Vectors.{norm}
use Rattle.algebra.specs.declared.vector.Vector.{Vector}
use Rattle.filters.specs.Banks.{filter_vec, finite_channels}
use Rattle.filters.specs.declared.coeffs.Coeffs.{Coeffs}
use Rattle.magnetic.specs.Told.{norm_dip, reference, candidate, with_reference, with_candidate, with_norm_dip}
use Rattle.magnetic.specs.declared.types.Field.{Field}
use Rattle.magnetic.specs.declared.types.NormDip.{NormDip}
use Rattle.magnetic.specs.declared.types.MagneticParams.{MagneticParams}
use Rattle.magnetic.specs.declared.types.MagneticCoefficients.{MagneticCoefficients}

unfoldable pub finite_field : Field → Bool
finite_field f =
    finite f.mag_ref_norm
    && finite f.mag_ref_dip
    && finite f.mag_undisturbed_t
    && finite f.mag_reject_t
    && finite f.mag_candidate_norm
    && finite f.mag_candidate_dip
    && finite f.mag_candidate_t
    && finite f.mag_norm_dip.0
    && finite f.mag_norm_dip.1
    && finite_channels 2 f.mag_norm_dip_lp_state

module _ (w : Format) where
  open rounded w use {◌⊕◌, ◌⊖◌, ◌⊗◌, ◌⊘◌}

  unfoldable pub norm_and_dip : Vector → NormDip
  norm_and_dip v = norm_dip (norm w v) (neg (asin w (v.2 ⊘ norm w v)))

  abbrev smoothed_by : Field → NormDip → Float → Float → Option Coeffs → Field
  smoothed_by f x tau ts None = with_norm_dip f x f.mag_norm_dip_lp_state
  smoothed_by f x tau ts (Some k) =
      let g = filter_vec w 2 (x.0 ∷ x.1 ∷ []) tau ts k f.mag_norm_dip_lp_state in
      with_norm_dip f (norm_dip (get_or g.y 0 nan) (get_or g.y 1 nan)) g.channels

  unfoldable pub smoothed : Field → NormDip → Float → MagneticCoefficients → Field
  smoothed f x tau c = smoothed_by f x tau c.mag_ts c.mag_norm_dip_lp

  unfoldable pub near : NormDip → NormDip → MagneticParams → Bool
  near x y p =
      lt (magnitude (x.0 ⊖ y.0)) (p.mag_norm_th ⊗ y.0)
      && lt (magnitude (x.1 ⊖ y.1)) (p.mag_dip_th ⊗ (pi w ⊘ half_turn w))

  unfoldable pub followed : Float → Float → Float → Float
  followed x k y = x ⊕ k ⊗ (y ⊖ x)

  unfoldable pub both_followed : NormDip → Float → NormDip → NormDip
  both_followed x k y = norm_dip (followed x.0 k y.0) (followed x.1 k y.1)

  unfoldable pub undisturbed : Field → MagneticParams → MagneticCoefficients → Field
  undisturbed f p c =
      let t = f.mag_undisturbed_t ⊕ c.mag_ts in
      cond (le p.mag_min_undisturbed_time t)
      (with_reference f false (both_followed (reference f) c.k_mag_ref f.mag_norm_dip) t)
      (with_reference f f.mag_dist_detected (reference f) t)

  -- magnetic disturbance detection
  unfoldable pub reference_step : Field → MagneticParams → MagneticCoefficients → Field
  reference_step f p c =
      cond (near f.mag_norm_dip (reference f) p)
      (undisturbed f p c)
      (with_reference f true (reference f) (zero w))

  -- time counts while the reader turns fast enough
  unfoldable pub candidate_time : Float → MagneticParams → Float → Float → Float
  candidate_time t p mag_ts gyr = cond (le (p.mag_new_min_gyr ⊗ pi w ⊘ half_turn w) gyr) (t ⊕ mag_ts) t

  unfoldable pub counted_candidate : Field → MagneticParams → MagneticCoefficients → Float → Field
  counted_candidate f p c gyr =
      with_candidate f (both_followed (candidate f) c.k_mag_ref f.mag_norm_dip) (candidate_time f.mag_candidate_t p c.mag_ts gyr)

  unfoldable pub accepted : Field → MagneticParams → Field
  accepted f p =
      let t = f.mag_candidate_t in
      cond
      (f.mag_dist_detected && (le p.mag_new_time t || eq f.mag_ref_norm (zero w) && le p.mag_new_first_time t))
      (with_reference f false (candidate f) p.mag_min_undisturbed_time)
      f

  -- new magnetic field acceptance
  unfoldable pub candidate_step : Field → MagneticParams → MagneticCoefficients → Float → Field
  candidate_step f p c gyr =
      cond (near f.mag_norm_dip (candidate f) p)
      (accepted (counted_candidate f p c gyr) p)
      (with_candidate f f.mag_norm_dip (zero w))

  unfoldable pub field_step : Field → MagneticParams → MagneticCoefficients → Vector → Vector → Field
  field_step f p c mag_earth gyr_lp =
      let seen = smoothed f (norm_and_dip mag_earth) p.mag_current_tau c in
      candidate_step (reference_step seen p c) p c (norm w gyr_lp)
