-- Both halves of a filter that is reached were reached by calls that keep their bounds (BiasHeld and CountsHeld of `inertial`, HowFar of `magnetic`).
use Rattle.floats.specs.Prelude.{◌≡◌, ap, ◌∙◌, List, Float, Format, Option}
use Rattle.floats.specs.Tests.{keeps}
use Rattle.limits.specs.Answers.{Told}
use Rattle.inertial.specs.declared.types.Inertial.{Inertial}
use Rattle.inertial.specs.Setup as inertial
use Rattle.inertial.proofs.BiasHeld.{Held, bias_within}
use Rattle.inertial.proofs.BiasReached.{reached_held}
use Rattle.inertial.proofs.BiasLimit.{bias_limit}
use Rattle.inertial.proofs.CountsHeld.{CountsHeld, reached_counts}
use Rattle.inertial.proofs.Sound.{Sound, reached_sound}
use Rattle.inertial.proofs.Sigma.{sigma_within}
use Rattle.magnetic.proofs.HowFar as of_magnetic
use Rattle.vqf.specs.Build.{house, interval_or, settings_or_house, built, fresh, new}
use Rattle.vqf.specs.Update.{seen, update_mag}
use Rattle.vqf.specs.Calls.{Call, inertial_calls, run}
use Rattle.vqf.specs.Construction.{all_taken}
use Rattle.vqf.specs.HowFar.{clip_of, Bounded, HowFar}
use Rattle.vqf.specs.Types.{VQF, Params}
use Rattle.vqf.proofs.InertialRun.{inertial_run}
use Rattle.vqf.proofs.Reached.{reached}
use Rattle.vqf.proofs.MagneticReached.{magnetic_reached}
use Rattle.vqf.proofs.StaysFinite.{inertial_half, stays_finite}

module _ (w : Format) where
  bounded : (f : VQF) → Held w f.inertial → CountsHeld w f.inertial → of_magnetic.Held w f.magnetic → Bounded w f
  unfolding update_mag
  bounded f i c m = record {
    heading = m.heading.0;
    disagreement = m.heading.2;
    bias = bias_within w f.inertial i;
    gain = of_magnetic.gain_used_within w f.magnetic m (seen w f.inertial);
    k_mag = m.gain;
    k_mag_init = m.heading.3;
    k_mag_ref = m.gain_ref;
    moved = of_magnetic.moves w f.magnetic m (seen w f.inertial);
    reject_t = m.times.rejecting;
    rest_t = c.3.0;
    undisturbed_t = m.times.undisturbed;
    candidate_t = m.times.candidate;
    acc_count = c.1;
    rest_gyr_count = c.3.1;
    rest_acc_count = c.3.2;
    rotation_count = c.2.0;
    bias_count = c.2.1;
    norm_dip_count = m.times.counts;
  }

  built_keeps : (p : Params) (gyr_ts acc_ts mag_ts : Float) (calls : List Call) → let f = built w p gyr_ts acc_ts mag_ts in clip_of (run w f calls) ≡ clip_of f
  unfolding built inertial.new
  built_keeps p gyr_ts acc_ts mag_ts calls =
      ap (λ (i : Inertial). i.params.rest.bias_clip) (inertial_run w (built w p gyr_ts acc_ts mag_ts) calls).half
      ∙ (bias_limit w).kept p.inertial gyr_ts acc_ts (inertial_calls calls)

  clip_kept : (gyr_ts : Float) (acc_ts mag_ts : Option Float) (given : Option Params) (calls : List Call) → let f = (new w gyr_ts acc_ts mag_ts given).left in clip_of (run w f calls) ≡ clip_of f
  unfolding new fresh
  clip_kept gyr_ts acc_ts mag_ts given calls =
      keeps (λ (t : Told VQF). clip_of (run w t.left calls) ≡ clip_of t.left) (all_taken w gyr_ts acc_ts mag_ts given) _ _
      (λ _. built_keeps (settings_or_house w given) gyr_ts (interval_or acc_ts gyr_ts) (interval_or mag_ts gyr_ts) calls)
      (built_keeps (house w) _ _ _ calls)

pub how_far : HowFar
how_far = record {
  bounded = λ w gyr_ts acc_ts mag_ts given calls.
      bounded w _
      (reached w (Held w) (reached_held w) gyr_ts acc_ts mag_ts given calls)
      (reached w (CountsHeld w) (reached_counts w) gyr_ts acc_ts mag_ts given calls)
      (magnetic_reached w gyr_ts acc_ts mag_ts given calls);
  clip_kept = clip_kept;
  finite = stays_finite;
  sigma = λ w gyr_ts acc_ts mag_ts given calls.
      sigma_within w _ (inertial_half _ (stays_finite w gyr_ts acc_ts mag_ts given calls)) (reached w (Sound w) (reached_sound w) gyr_ts acc_ts mag_ts given calls);
}
