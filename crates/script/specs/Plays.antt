-- What a call of a script does: it is a call of the filter.
use Rattle.std.specs.Float.{binary64}
use Rattle.limits.specs.Answers.{Told}
use Rattle.vqf.specs.Build.{new}
use Rattle.vqf.specs.Update.{update_gyr, update_gyr_with_ts, update_acc, update_mag}
use Rattle.vqf.specs.Setters.{set_tau_acc, set_tau_mag, set_motion_bias_est_enabled, set_rest_bias_est_enabled, set_mag_dist_rejection_enabled, set_rest_detection_thresholds, set_bias_estimate, set_mag_ref, reset_state}
use Rattle.vqf.specs.declared.types.VQF.{VQF}
use Rattle.script.specs.declared.request.Construction.{Construction}
use Rattle.script.specs.declared.request.Call.{Call}
use Rattle.script.specs.declared.request.Call.TheVariants.{New, Gyr, GyrWithTs, Acc, Mag, TauAcc, TauMag, Motion, Rest, Dist, Thresholds, Bias, MagRef, Reset}

abbrev pub built : Construction → Told VQF
built c = new binary64 c.gyr_ts c.acc_ts c.mag_ts c.settings

unfoldable pub called : VQF → Call → Told VQF
called f (New c) = built c
called f (Gyr v) = update_gyr binary64 f v
called f (GyrWithTs v ts) = update_gyr_with_ts binary64 f v ts
called f (Acc v) = update_acc binary64 f v
called f (Mag v) = update_mag binary64 f v
called f (TauAcc tau) = set_tau_acc binary64 f tau
called f (TauMag tau) = set_tau_mag binary64 f tau
called f (Motion on) = set_motion_bias_est_enabled f on
called f (Rest on) = set_rest_bias_est_enabled binary64 f on
called f (Dist on) = set_mag_dist_rejection_enabled binary64 f on
called f (Thresholds gyr acc) = set_rest_detection_thresholds binary64 f gyr acc
called f (Bias v sigma) = set_bias_estimate binary64 f v sigma
called f (MagRef norm dip) = set_mag_ref binary64 f norm dip
called f Reset = reset_state binary64 f
