-- Each call on the magnetic half keeps its heading, its gains and its times within bounds: a step by HeadingHeld and TimesHeld, a setter by what it takes.
use Rattle.floats.specs.Prelude.{◌≡◌, refl, sym, subst, Bool, true, false, cond, ◌&&◌, List, T, Float, Format, binary32, binary64, neg, le, fits, of_bits, finite}
use Rattle.floats.specs.Notation.{rounded, zero, one}
use Rattle.floats.specs.Tests.{both, keeps}
use Rattle.floats.specs.Clamps.{cond_within}
use Rattle.numbers.proofs.Ranges.{angle_within}
use Rattle.algebra.specs.Quaternions.{rotate}
use Rattle.algebra.specs.declared.vector.Vector.{Vector}
use Rattle.filters.specs.Bounds.{Gain}
use Rattle.filters.specs.declared.channel.Channel.{Channel}
use Rattle.filters.specs.Coefficients.{gain_from_tau}
use Rattle.filters.proofs.Gains.{gain_within}
use Rattle.limits.specs.Answers.{Told}
use Rattle.limits.specs.declared.updated.Tried.{Tried}
use Rattle.limits.specs.Limits.{least_tau, mag_taken, zero_sample, gain_tau_taken, ref_norm_taken, ref_dip_taken}
use Rattle.magnetic.specs.Headings.{wrapped, lifted, corrected}
use Rattle.magnetic.specs.HowFar.{gain_rejecting, gain_used, Moved}
use Rattle.magnetic.specs.Setup.{taken, setup, fresh_state, new}
use Rattle.magnetic.specs.Setters.{set_tau_mag, set_mag_ref, restarted, reset_state}
use Rattle.magnetic.specs.Calls as calls
use Rattle.magnetic.specs.Step.{tried_rejecting, tried_plain, tried, mag_step, update_mag}
use Rattle.magnetic.specs.Types.{Magnetic, MagneticCoefficients, MagneticParams, MagneticState, Seen}
use Rattle.magnetic.proofs.Answers.{answers}
use Rattle.magnetic.proofs.Construction.{tau_or_off, opened}
use Rattle.magnetic.proofs.HeadingHeld.{Headed, HeadingHeld, rejected_within, lifted_within, corrected_held, moved}
use Rattle.magnetic.proofs.TimesHeld.{TimesSet, Times, TimesHeld, restarted_held, field_held, rejected_held}

fresh_held : (w : Format) (p : MagneticParams) → HeadingHeld w (fresh_state w p).heading
unfolding fresh_state neg le fits of_bits
fresh_held binary32 p = ((tt, tt), tt, (tt, tt), (tt, tt))
fresh_held binary64 p = ((tt, tt), tt, (tt, tt), (tt, tt))

-- what a half must hold, by the numbers that it speaks of: nothing is said of flags
pub record Holds (w : Format) (p : MagneticParams) (c : MagneticCoefficients) (delta dis init reject_t undisturbed_t candidate_t : Float) (norm_dip : List Channel) : Type 0 where
  pub set : TimesSet w p c
  pub gain : Gain w c.k_mag
  pub gain_ref : Gain w c.k_mag_ref
  pub heading : Headed w delta dis init
  pub times : Times w p c reject_t undisturbed_t candidate_t norm_dip

module _ (w : Format) where
  open rounded w use {◌⊕◌, ◌⊗◌}

  abbrev pub Held : Magnetic → Type 0
  Held f =
      let h = f.state.heading in
      let g = f.state.field in
      Holds w f.params f.coeffs h.delta h.last_mag_dis_angle h.k_mag_init g.mag_reject_t g.mag_undisturbed_t g.mag_candidate_t g.mag_norm_dip_lp_state

  pub new_held : (p : MagneticParams) (ts : Float) → T (taken w p ts) → Held (new w p ts)
  unfolding new setup fresh_state
  new_held p ts taken =
      let t = opened w p ts taken in
      let s : TimesSet w p (setup w p ts) = record { interval = t.interval; factor = t.factor; longest = t.rejection; least = t.undisturbed } in
      record {
        set = s;
        gain = gain_within w p.tau_mag ts t.interval t.tau_mag;
        gain_ref = gain_within w p.mag_ref_tau ts t.interval t.ref_tau;
        heading = fresh_held w p;
        times = restarted_held w p (setup w p ts) s _;
      }

  module _ (f : Magnetic) (h : Held f) where
    abbrev Left : Told Magnetic → Type 0
    Left t = Held t.left

    -- ---- the step
    abbrev StateHeld : MagneticState → Type 0
    StateHeld s = HeadingHeld w s.heading × TimesHeld w f.params f.coeffs s.field

    abbrev TriedHeld : Tried MagneticState → Type 0
    TriedHeld t = T t.finite → StateHeld t.value

    rejecting_held : (mag_earth gyr_lp : Vector) → TriedHeld (tried_rejecting w f.state f.params f.coeffs mag_earth gyr_lp)
    unfolding tried_rejecting
    rejecting_held v g t = (
      corrected_held w f.state.heading _ _ f.params.tau_mag f.coeffs.mag_ts (angle_within w v.0 v.1) (rejected_within w _ f.params f.coeffs h.gain h.set.factor) h.heading (simp both at t).1,
      rejected_held w f.params f.coeffs h.set _ (field_held w f.params f.coeffs h.set f.state.field v g h.times),
    )

    plain_held : (mag_earth : Vector) → TriedHeld (tried_plain w f.state f.params f.coeffs mag_earth)
    unfolding tried_plain
    plain_held v t = (corrected_held w f.state.heading _ _ f.params.tau_mag f.coeffs.mag_ts (angle_within w v.0 v.1) h.gain h.heading t, h.times)

    tried_held : (seen : Seen) (mag : Vector) → TriedHeld (tried w f.state f.params f.coeffs seen mag)
    unfolding tried
    tried_held seen mag = keeps TriedHeld seen.mag_dist_rejection_enabled _ _ (λ _. rejecting_held _ _) (plain_held _)

    mag_held : (seen : Seen) (mag : Vector) → Left (update_mag w f seen mag)
    unfolding update_mag mag_step
    mag_held seen mag =
        keeps Left (mag_taken w mag) _ _
        (λ _. keeps Left (zero_sample w mag) _ _ (λ _. h)
        (keeps Left (tried w f.state f.params f.coeffs seen mag).finite _ _
        (λ t. let s = tried_held seen mag t in record { set = h.set; gain = h.gain; gain_ref = h.gain_ref; heading = s.0; times = s.1 }) h))
        h

    -- ---- the setters
    tau_held : (tau : Float) → Left (set_tau_mag w f tau)
    unfolding set_tau_mag
    tau_held tau =
        let s = h.set in
        keeps Left (gain_tau_taken w tau) _ _
        (λ t. keeps Left (finite (gain_from_tau w tau f.coeffs.mag_ts)) _ _
        (λ _. record {
          set = record { interval = s.interval; factor = s.factor; longest = s.longest; least = s.least };
          gain = gain_within w tau f.coeffs.mag_ts s.interval (tau_or_off w (least_tau w) tau t);
          gain_ref = h.gain_ref;
          heading = h.heading;
          times = h.times;
        }) h)
        h

    ref_held : (norm dip : Float) → Left (set_mag_ref w f norm dip)
    unfolding set_mag_ref
    ref_held norm dip = keeps Left (ref_norm_taken w norm && ref_dip_taken w dip) _ _ (λ _. h) h

    pub call_held : (seen : Seen) (c : calls.Call) → Left (calls.reply w f seen c)
    call_held seen (calls.update_mag v) = mag_held seen v
    call_held seen (calls.set_tau_mag tau) = tau_held tau
    call_held seen (calls.set_mag_ref norm dip) = ref_held norm dip

    -- ---- what acts on both halves
    pub switched_held : Held (restarted w f)
    unfolding restarted
    switched_held = record { set = h.set; gain = h.gain; gain_ref = h.gain_ref; heading = h.heading; times = restarted_held w f.params f.coeffs h.set _ }

    pub reset_held : Held (reset_state w f)
    unfolding reset_state fresh_state
    reset_held = record { set = h.set; gain = h.gain; gain_ref = h.gain_ref; heading = fresh_held w f.params; times = restarted_held w f.params f.coeffs h.set _ }

    -- ---- the gain that a step uses, and what it moves the heading by
    pub gain_used_within : (seen : Seen) (mag : Vector) → Gain w (gain_used w f seen mag)
    gain_used_within seen mag =
        lifted_within w _ _ (cond_within seen.mag_dist_rejection_enabled (gain_rejecting w f seen mag) f.coeffs.k_mag (zero w) (one w) (rejected_within w _ f.params f.coeffs h.gain h.set.factor) h.gain)
        h.heading.3

    goes : (seen : Seen) (mag : Vector)
        → let g = (tried w f.state f.params f.coeffs seen mag).value.heading in
        g.delta ≡ wrapped w (f.state.heading.delta ⊕ gain_used w f seen mag ⊗ g.last_mag_dis_angle)
    unfolding tried tried_rejecting tried_plain corrected
    goes seen mag = go seen.mag_dist_rejection_enabled
      where
        mag_earth : Vector
        mag_earth = rotate w seen.quat_6d mag

        rejecting : Tried MagneticState
        rejecting = tried_rejecting w f.state f.params f.coeffs mag_earth seen.rest_last_gyr_lp

        plain : Tried MagneticState
        plain = tried_plain w f.state f.params f.coeffs mag_earth

        go : (on : Bool)
            → let g = (cond on rejecting plain).value.heading in
            g.delta ≡ wrapped w (f.state.heading.delta ⊕ lifted w (cond on (gain_rejecting w f seen mag) f.coeffs.k_mag) f.state.heading.k_mag_init ⊗ g.last_mag_dis_angle)
        go true = refl
        go false = refl

    pub moves : (seen : Seen) (mag : Vector) → (update_mag w f seen mag).number ≡ 0 → Moved w f.state.heading (gain_used w f seen mag) (update_mag w f seen mag).left.state.heading
    moves seen mag e =
        moved w f.state.heading _ (gain_used w f seen mag) h.heading (gain_used_within seen mag) (mag_held seen mag).heading.2
        (subst (λ (g : Magnetic). g.state.heading.delta ≡ wrapped w (f.state.heading.delta ⊕ gain_used w f seen mag ⊗ g.state.heading.last_mag_dis_angle))
        (sym ((answers w).mag_leaves f seen mag e)) (goes seen mag))
