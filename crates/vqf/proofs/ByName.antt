-- A call on one half is the definition of its name, opened.
use Rattle.floats.specs.Prelude.{refl, Format}
use Rattle.vqf.specs.Update as updates
use Rattle.vqf.specs.Setters as setters
use Rattle.vqf.specs.Calls.{ByName}
use Rattle.vqf.specs.declared.types.VQF.{VQF}

pub by_name : (w : Format) (f : VQF) → ByName w f
unfolding updates.update_gyr updates.update_gyr_with_ts updates.update_acc updates.update_mag setters.set_tau_acc setters.set_tau_mag setters.set_motion_bias_est_enabled setters.set_rest_bias_est_enabled setters.set_rest_detection_thresholds setters.set_bias_estimate setters.set_mag_ref
by_name w f = record {
  gyr = λ v. refl;
  gyr_with_ts = λ v ts. refl;
  acc = λ v. refl;
  mag = λ v. refl;
  all_three = λ g a m. refl;
  tau_acc = λ tau. refl;
  tau_mag = λ tau. refl;
  motion = λ on. refl;
  rest = λ on. refl;
  dist = λ on. refl;
  thresholds = λ g a. refl;
  bias = λ v s. refl;
  mag_ref = λ norm dip. refl;
  reset = refl;
}
