-- The inertial half of a run, and its answers, are those of the calls that reach it (`inertial_run`). What is magnetic is not among them, so
-- striking it out changes nothing there.
use Rattle.floats.specs.Prelude.{◌≡◌, refl, sym, ap, ◌∙◌, List, Format}
use Rattle.inertial.specs.Calls as of_half
use Rattle.vqf.specs.Calls.{Call, inertial_calls, run}
use Rattle.vqf.specs.Struck.{struck}
use Rattle.vqf.specs.Apart.{Alike, Apart}
use Rattle.vqf.specs.declared.types.VQF.{VQF}
use Rattle.vqf.proofs.InertialRun.{struck_reaches, same_half, inertial_run}

module _ (w : Format) where
  alike : (f g : VQF) (cs ds : List Call) → f.inertial ≡ g.inertial → inertial_calls cs ≡ inertial_calls ds → Alike w f cs g ds
  alike f g cs ds e h =
      let a = inertial_run w f cs in
      let b = inertial_run w g ds in
      let half : (run w f cs).inertial ≡ (run w g ds).inertial = a.half ∙ (λ i. of_half.run w (e i) (h i)) ∙ sym b.half in
      record {
        tilt = record {
          acc_quat = λ i. (half i).state.inclination.acc_quat;
          gyr_quat = λ i. (half i).state.inclination.gyr_quat;
          bias = λ i. (half i).state.bias.bias;
          covariance = λ i. (half i).state.bias.bias_p;
          at_rest = λ i. (half i).state.rest.rest_detected;
          inertial = half;
        };
        answers = a.numbers ∙ (λ i. of_half.answers w (e i) (h i)) ∙ sym b.numbers;
      }

  pub apart : Apart w
  apart gyr_ts acc_ts p f g bf bg cs ds h =
      let e : f.inertial ≡ g.inertial = same_half w gyr_ts acc_ts p f bf ∙ sym (same_half w gyr_ts acc_ts p g bg) in (
        alike f g cs ds e (sym (struck_reaches cs) ∙ ap inertial_calls h ∙ struck_reaches ds),
        alike f f cs (struck cs) refl (sym (struck_reaches cs)),
        alike g g ds (struck ds) refl (sym (struck_reaches ds)),
      )
