-- The house settings, which settings are taken, and the coefficients and the fresh state that they give, over the format w.
use Rattle.std.specs.Prelude.{Bool, true, cond, ◌&&◌, replicate, Option, None, Some, Float}
use Rattle.std.specs.Float.{Format}
use Rattle.std.specs.Float.Ieee.{neg, lt}
use Rattle.floats.specs.Notation.{zero, half, one, two}
use Rattle.floats.specs.Decimals.{five, nine, ten, twenty, sixty, tenth, twentieth}
use Rattle.filters.specs.Channels.{fresh}
use Rattle.filters.specs.Coefficients.{filter_coeffs, gain_from_tau}
use Rattle.filters.specs.declared.coeffs.Coeffs.{Coeffs}
use Rattle.limits.specs.Limits.{interval_taken, tau_or_off_taken, gain_tau_taken, duration_taken, norm_threshold_taken, dip_threshold_taken, min_gyr_taken, rejection_factor_taken}
use Rattle.magnetic.specs.Told.{norm_dip, state_of}
use Rattle.magnetic.specs.declared.types.Field.{Field}
use Rattle.magnetic.specs.declared.types.Magnetic.{Magnetic}
use Rattle.magnetic.specs.declared.types.MagneticCoefficients.{MagneticCoefficients}
use Rattle.magnetic.specs.declared.types.MagneticParams.{MagneticParams}
use Rattle.magnetic.specs.declared.types.MagneticState.{MagneticState}
use Rattle.magnetic.specs.declared.types.NormDip.{NormDip}

module _ (w : Format) where
  unfoldable pub house : MagneticParams
  house = record {
    tau_mag = nine w;
    mag_current_tau = twentieth w;
    mag_ref_tau = twenty w;
    mag_norm_th = tenth w;
    mag_dip_th = ten w;
    mag_new_time = twenty w;
    mag_new_first_time = five w;
    mag_new_min_gyr = twenty w;
    mag_min_undisturbed_time = half w;
    mag_max_rejection_time = sixty w;
    mag_rejection_factor = two w;
  }

  unfoldable pub taus_taken : MagneticParams → Float → Bool
  taus_taken p mag_ts = gain_tau_taken w p.tau_mag && tau_or_off_taken w mag_ts p.mag_current_tau && gain_tau_taken w p.mag_ref_tau

  unfoldable pub thresholds_taken : MagneticParams → Bool
  thresholds_taken p =
      norm_threshold_taken w p.mag_norm_th
      && dip_threshold_taken w p.mag_dip_th
      && min_gyr_taken w p.mag_new_min_gyr
      && rejection_factor_taken w p.mag_rejection_factor

  unfoldable pub times_taken : MagneticParams → Bool
  times_taken p =
      duration_taken w p.mag_new_time
      && duration_taken w p.mag_new_first_time
      && duration_taken w p.mag_min_undisturbed_time
      && duration_taken w p.mag_max_rejection_time

  unfoldable pub taken : MagneticParams → Float → Bool
  taken p mag_ts = interval_taken w mag_ts && taus_taken p mag_ts && thresholds_taken p && times_taken p

  unfoldable pub smoothing_of : Float → Float → Option Coeffs
  smoothing_of tau mag_ts = cond (lt (zero w) tau) (Some (filter_coeffs tau mag_ts)) None

  unfoldable pub setup : MagneticParams → Float → MagneticCoefficients
  setup p mag_ts = record {
    mag_ts = mag_ts;
    k_mag = gain_from_tau w p.tau_mag mag_ts;
    k_mag_ref = gain_from_tau w p.mag_ref_tau mag_ts;
    mag_norm_dip_lp = smoothing_of p.mag_current_tau mag_ts;
  }

  -- nothing is known of the field but its last norm and dip
  unfoldable pub restarted_field : MagneticParams → NormDip → Field
  restarted_field p x = record {
    mag_dist_detected = true;
    mag_ref_norm = zero w;
    mag_ref_dip = zero w;
    mag_undisturbed_t = zero w;
    mag_reject_t = p.mag_max_rejection_time;
    mag_candidate_norm = neg (one w);
    mag_candidate_dip = zero w;
    mag_candidate_t = zero w;
    mag_norm_dip = x;
    mag_norm_dip_lp_state = replicate 2 fresh;
  }

  unfoldable pub fresh_state : MagneticParams → MagneticState
  fresh_state p =
      state_of
      (record { delta = zero w; k_mag_init = one w; last_mag_dis_angle = zero w; last_mag_corr_angular_rate = zero w })
      (restarted_field p (norm_dip (zero w) (zero w)))

  unfoldable pub new : MagneticParams → Float → Magnetic
  new p mag_ts = record { params = p; coeffs = setup p mag_ts; state = fresh_state p }
