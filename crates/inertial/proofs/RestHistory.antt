-- What rest turns on is a view of the filter. Each accepted call moves that view by one function of the view and the call (`moved`), and a refused
-- one leaves it. What the diary and the events tell moves in the same way (`kept_up`), and both start alike (`rest_from_history`).
use Rattle.floats.specs.Prelude.{◌≡◌, refl, ap, ◌∙◌, Bool, true, false, cond, ◌&&◌, Bool_beq, List, [], ◌∷◌, ℕ, Float, Format, eq, Option}
use Rattle.floats.specs.Tests.{keeps}
use Rattle.algebra.specs.declared.vector.Vector.{Vector}
use Rattle.limits.specs.Answers.{Told, told}
use Rattle.limits.specs.Limits.{tau_taken, threshold_taken}
use Rattle.tilt.specs.Setup.{fresh_rest}
use Rattle.tilt.specs.RestHistory.{breaks, neither, Diary}
use Rattle.tilt.specs.declared.types.RestParams.{RestParams}
use Rattle.tilt.proofs.RestHistory.{Clock, moved_by, moved_by_all, shown, told_by, View, view, with_settings, restarted, gyr_seen, acc_seen, gyr_rest_moves, acc_rest_moves, told_view, gyr_kept_up, acc_kept_up}
use Rattle.inertial.specs.Told.{state_of, with_state}
use Rattle.inertial.specs.Gyr as gyr
use Rattle.inertial.specs.Acc as acc
use Rattle.inertial.specs.Setup as setup
use Rattle.inertial.specs.Setters as setters
use Rattle.inertial.specs.Calls.{Call, own, update_gyr, update_acc, update_gyr_with_ts, set_tau_acc, set_motion_bias_est_enabled, set_rest_bias_est_enabled, set_mag_dist_rejection_enabled, set_rest_detection_thresholds, set_bias_estimate, reset_state, answered, reply, run, answers}
use Rattle.inertial.specs.RestHistory.{if_accepted, opened, noted, next, written, event, events, RestFromHistory}
use Rattle.inertial.specs.Types.{Inertial}
use Rattle.inertial.proofs.Steps.{gyr_keeps, acc_keeps}
use Rattle.inertial.proofs.Tested.{fits}

abbrev view_of : Inertial → View
view_of f = view f.params.rest f.coeffs.gyr_ts f.coeffs.acc_ts f.coeffs.rest_gyr_lp f.coeffs.rest_acc_lp f.state.rest

module _ (w : Format) where
  -- the view after a call that was accepted
  abbrev stepped : View → Call → View
  stepped v (own (update_gyr x)) = gyr_seen w v x
  stepped v (own (update_gyr_with_ts x ts)) = gyr_seen w v x
  stepped v (own (update_acc x)) = acc_seen w v x
  stepped v (own (set_rest_bias_est_enabled on)) =
      cond (Bool_beq v.settings.rest_bias_est_enabled on) v
      (restarted w (with_settings v (setters.with_switches v.settings on v.settings.mag_dist_rejection_enabled)))
  stepped v (set_mag_dist_rejection_enabled on) = with_settings v (setters.with_switches v.settings v.settings.rest_bias_est_enabled on)
  stepped v (own (set_rest_detection_thresholds g a)) = with_settings v (setters.with_thresholds v.settings g a)
  stepped v reset_state = restarted w v
  stepped v (own (set_tau_acc tau)) = v
  stepped v (own (set_motion_bias_est_enabled on)) = v
  stepped v (own (set_bias_estimate b s)) = v

  -- ---- Each call moves the view so.
  abbrev Moved : Inertial → View → Told Inertial → Type 0
  Moved f v t = view_of t.left ≡ if_accepted t.number v (view_of f)

  gyr_moves : (f : Inertial) (x : Vector) (ts : Float) → Moved f (gyr_seen w (view_of f) x) (gyr.update_gyr_with_ts w f x ts)
  gyr_moves f x ts = gyr_keeps w f x (Moved f (gyr_seen w (view_of f) x)) (λ _. refl) ts (λ _. gyr_rest_moves w _ _ _ _ _ f.state.rest x)

  acc_moves : (f : Inertial) (x : Vector) → Moved f (acc_seen w (view_of f) x) (acc.update_acc w f x)
  acc_moves f x = acc_keeps w f x (Moved f (acc_seen w (view_of f) x)) (λ _. refl) (λ _. acc_rest_moves w _ _ _ _ _ f.state.rest x)

  retuned_keeps : (f : Inertial) (tau : Float) → Moved f (view_of f) (setters.retuned w f tau)
  unfolding setters.retuned
  retuned_keeps f tau = keeps (Moved f (view_of f)) (fits w f tau) _ (told 6 f) (λ _. refl) refl

  tau_acc_keeps : (f : Inertial) (tau : Float) → Moved f (view_of f) (setters.set_tau_acc w f tau)
  unfolding setters.set_tau_acc
  tau_acc_keeps f tau =
      let P = Moved f (view_of f) in
      keeps P (tau_taken w f.coeffs.acc_ts tau) _ (told 4 f) (λ _. keeps P (eq f.params.tau_acc tau) (told 0 f) _ (λ _. refl) (retuned_keeps f tau)) refl

  motion_switch_keeps : (f : Inertial) (on : Bool) → view_of (setters.set_motion_bias_est_enabled f on) ≡ view_of f
  unfolding setters.set_motion_bias_est_enabled
  motion_switch_keeps f on = keeps (λ (g : Inertial). view_of g ≡ view_of f) (Bool_beq f.params.bias.motion_bias_est_enabled on) f _ (λ _. refl) refl

  rest_switch_moves : (f : Inertial) (on : Bool) → view_of (setters.set_rest_bias_est_enabled w f on) ≡ stepped (view_of f) (own (set_rest_bias_est_enabled on))
  unfolding setters.set_rest_bias_est_enabled fresh_rest
  rest_switch_moves f on = go (Bool_beq f.params.rest.rest_bias_est_enabled on)
    where
      p : RestParams
      p = setters.with_switches f.params.rest on f.params.rest.mag_dist_rejection_enabled

      go : (same : Bool)
          → view_of (cond same f (with_state (setters.with_params f (setters.with_rest_params f.params p)) (state_of f.state.inclination f.state.bias (fresh_rest w))))
          ≡ cond same (view_of f) (restarted w (with_settings (view_of f) p))
      go true = refl
      go false = refl

  thresholds_move : (f : Inertial) (g a : Float) → Moved f (stepped (view_of f) (own (set_rest_detection_thresholds g a))) (setters.set_rest_detection_thresholds w f g a)
  unfolding setters.set_rest_detection_thresholds
  thresholds_move f g a = keeps (Moved f (stepped (view_of f) (own (set_rest_detection_thresholds g a)))) (threshold_taken w g && threshold_taken w a) _ (told 4 f) (λ _. refl) refl

  estimate_keeps : (f : Inertial) (b : Vector) (sigma : Option Float) → Moved f (view_of f) (setters.set_bias_estimate w f b sigma)
  unfolding setters.set_bias_estimate
  estimate_keeps f b sigma = keeps (Moved f (view_of f)) (setters.bias_taken w f.params.rest.bias_clip b && setters.sigma_or_none_taken w sigma) _ (told 4 f) (λ _. refl) refl

  moved : (f : Inertial) (c : Call) → Moved f (stepped (view_of f) c) (reply w f c)
  unfolding setters.set_mag_dist_rejection_enabled setters.reset_state setup.fresh_state fresh_rest
  moved f (own (update_gyr x)) = gyr_moves f x f.coeffs.gyr_ts
  moved f (own (update_gyr_with_ts x ts)) = gyr_moves f x ts
  moved f (own (update_acc x)) = acc_moves f x
  moved f (own (set_tau_acc tau)) = tau_acc_keeps f tau
  moved f (own (set_motion_bias_est_enabled on)) = motion_switch_keeps f on
  moved f (own (set_rest_bias_est_enabled on)) = rest_switch_moves f on
  moved f (set_mag_dist_rejection_enabled on) = refl
  moved f (own (set_rest_detection_thresholds g a)) = thresholds_move f g a
  moved f (own (set_bias_estimate b sigma)) = estimate_keeps f b sigma
  moved f reset_state = refl

  -- ---- And so does what history tells.
  kept_up : (d : Diary) (k : Clock) (c : Call) → stepped (told_view w d k) c ≡ told_view w (noted d c) (moved_by w k (event w d c))
  kept_up d k (own (update_gyr x)) = gyr_kept_up w d k x
  kept_up d k (own (update_gyr_with_ts x ts)) = gyr_kept_up w d k x
  kept_up d k (own (update_acc x)) = acc_kept_up w d k x
  kept_up d k (own (set_rest_bias_est_enabled on)) = go (Bool_beq d.settings.rest_bias_est_enabled on)
    where
      changed : Diary
      changed = record { settings = setters.with_switches d.settings on d.settings.mag_dist_rejection_enabled; gyr_ts = d.gyr_ts; acc_ts = d.acc_ts; gyr_heard = []; acc_heard = [] }

      go : (same : Bool)
          → cond same (told_view w d k) (restarted w (with_settings (told_view w d k) changed.settings))
          ≡ told_view w (cond same d changed) (moved_by w k (cond same neither breaks))
      go true = refl
      go false = refl
  kept_up d k (set_mag_dist_rejection_enabled on) = refl
  kept_up d k (own (set_rest_detection_thresholds g a)) = refl
  kept_up d k reset_state = refl
  kept_up d k (own (set_tau_acc tau)) = refl
  kept_up d k (own (set_motion_bias_est_enabled on)) = refl
  kept_up d k (own (set_bias_estimate b sigma)) = refl

  one_call : (d : Diary) (k : Clock) (c : Call) (n : ℕ)
      → if_accepted n (stepped (told_view w d k) c) (told_view w d k)
      ≡ told_view w (next d (record { call = c; number = n })) (moved_by w k (if_accepted n (event w d c) neither))
  one_call d k c ℕ.zero = kept_up d k c
  one_call d k c (ℕ.suc n) = refl

  all_calls : (f : Inertial) (d : Diary) (k : Clock) (cs : List Call) → view_of f ≡ told_view w d k
      → let history = answered cs (answers w f cs) in
      view_of (run w f cs) ≡ told_view w (written d history) (moved_by_all w k (events w d history))
  all_calls f d k [] h = h
  all_calls f d k (c ∷ cs) h =
      let n = (reply w f c).number in
      all_calls (reply w f c).left _ _ cs (moved f c ∙ ap (λ (v : View). if_accepted n (stepped v c) v) h ∙ one_call d k c n)

  pub rest_from_history : RestFromHistory w
  unfolding setup.new setup.setup setup.fresh_state fresh_rest
  rest_from_history p gyr_ts acc_ts calls =
      let f = setup.new w p gyr_ts acc_ts in
      let e = all_calls f (opened p gyr_ts acc_ts) (shown w p.rest.rest_min_t []) calls refl in
      let es = events w (opened p gyr_ts acc_ts) (answered calls (answers w f calls)) in
      record {
        holds = record {
          settings = λ i. (e i).settings;
          gyr_ts = λ i. (e i).gyr_ts;
          acc_ts = λ i. (e i).acc_ts;
          gyr_lp = λ i. (e i).gyr_lp;
          acc_lp = λ i. (e i).acc_lp;
          gyr_memory = λ i. (e i).gyr_memory;
          acc_memory = λ i. (e i).acc_memory;
        };
        flag = (λ i. (e i).clock.reached) ∙ (λ i. (told_by w p.rest.rest_min_t [] es i).reached);
      }
