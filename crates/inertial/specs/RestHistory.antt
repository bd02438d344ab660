-- Rest, told from history: what the construction, the calls and their answers tell of rest, over the format w. What samples do is in specs/RestHistory.antt of `tilt`.
use Rattle.std.specs.Prelude.{◌≡◌, refl, cond, List, [], ◌∷◌, ℕ, Float}
use Rattle.std.specs.Bool.{beq}
use Rattle.std.specs.Float.{Format}
use Rattle.filters.specs.Coefficients.{filter_coeffs}
use Rattle.tilt.specs.RestHistory.{Event, breaks, neither, told_rest, Diary, with_settings, restarted, note_gyr, note_acc, memory, gyr_event, acc_event}
use Rattle.inertial.specs.Setup.{new}
use Rattle.inertial.specs.Setters.{with_switches, with_thresholds}
use Rattle.inertial.specs.Calls.{Call, own, update_gyr, update_acc, update_gyr_with_ts, set_tau_acc, set_motion_bias_est_enabled, set_rest_bias_est_enabled, set_mag_dist_rejection_enabled, set_rest_detection_thresholds, set_bias_estimate, reset_state, Answered, answered, run, answers}
use Rattle.inertial.specs.declared.types.Inertial.{Inertial}
use Rattle.inertial.specs.declared.types.InertialParams.{InertialParams}

-- what an accepted call does, and what any other does
abbrev pub if_accepted : {A : Type 0} → ℕ → A → A → A
if_accepted ℕ.zero x y = x
if_accepted (ℕ.suc n) x y = y

abbrev pub opened : InertialParams → Float → Float → Diary
opened p gyr_ts acc_ts = record { settings = p.rest; gyr_ts = gyr_ts; acc_ts = acc_ts; gyr_heard = []; acc_heard = [] }

-- the diary after a call that was accepted
abbrev pub noted : Diary → Call → Diary
noted d (own (update_gyr gyr)) = note_gyr d gyr
noted d (own (update_gyr_with_ts gyr ts)) = note_gyr d gyr
noted d (own (update_acc acc)) = note_acc d acc
noted d (own (set_rest_bias_est_enabled on)) =
    cond (beq d.settings.rest_bias_est_enabled on) d
    (restarted (with_settings d (with_switches d.settings on d.settings.mag_dist_rejection_enabled)))
noted d (set_mag_dist_rejection_enabled on) = with_settings d (with_switches d.settings d.settings.rest_bias_est_enabled on)
noted d (own (set_rest_detection_thresholds gyr acc)) = with_settings d (with_thresholds d.settings gyr acc)
noted d reset_state = restarted d
noted d (own (set_tau_acc tau)) = d
noted d (own (set_motion_bias_est_enabled on)) = d
noted d (own (set_bias_estimate bias sigma)) = d

abbrev pub next : Diary → Answered → Diary
next d a = if_accepted a.number (noted d a.call) d

abbrev pub written : Diary → List Answered → Diary
written d [] = d
written d (a ∷ later) = written (next d a) later

module _ (w : Format) where
  -- what a call that was accepted does; rest breaks also at "`reset_state`, a `set_rest_bias_est_enabled` that changes the switch"
  abbrev pub event : Diary → Call → Event
  event d (own (update_gyr gyr)) = gyr_event w d gyr
  event d (own (update_gyr_with_ts gyr ts)) = gyr_event w d gyr
  event d (own (update_acc acc)) = acc_event w d acc
  event d (own (set_rest_bias_est_enabled on)) = cond (beq d.settings.rest_bias_est_enabled on) neither breaks
  event d reset_state = breaks
  event d (own (set_tau_acc tau)) = neither
  event d (own (set_motion_bias_est_enabled on)) = neither
  event d (set_mag_dist_rejection_enabled on) = neither
  event d (own (set_rest_detection_thresholds gyr acc)) = neither
  event d (own (set_bias_estimate bias sigma)) = neither

  -- "Answers 1 to 6 neither add nor break."
  abbrev pub events : Diary → List Answered → List Event
  events d [] = []
  events d (a ∷ later) = if_accepted a.number (event d a.call) neither ∷ events (next d a) later

  -- ---- The promise.
  -- what the filter holds is what the diary tells: settings and intervals, the coefficients that they give, and the memories
  pub record Holds (d : Diary) (f : Inertial) : Type 0 where
    pub settings : f.params.rest ≡ d.settings
    pub gyr_ts : f.coeffs.gyr_ts ≡ d.gyr_ts
    pub acc_ts : f.coeffs.acc_ts ≡ d.acc_ts
    pub gyr_lp : f.coeffs.rest_gyr_lp ≡ filter_coeffs d.settings.rest_filter_tau d.gyr_ts
    pub acc_lp : f.coeffs.rest_acc_lp ≡ filter_coeffs d.settings.rest_filter_tau d.acc_ts
    pub gyr_memory : f.state.rest.rest_gyr_lp_state ≡ memory w d.settings.rest_filter_tau d.gyr_ts d.gyr_heard
    pub acc_memory : f.state.rest.rest_acc_lp_state ≡ memory w d.settings.rest_filter_tau d.acc_ts d.acc_heard

  -- f, which came of these settings and intervals by calls that were answered so, reports rest exactly when they tell rest
  pub record ToldByHistory (p : InertialParams) (gyr_ts acc_ts : Float) (history : List Answered) (f : Inertial) : Type 0 where
    pub holds : Holds (written (opened p gyr_ts acc_ts) history) f
    pub flag : f.state.rest.rest_detected ≡ told_rest w p.rest.rest_min_t (events (opened p gyr_ts acc_ts) history)

  abbrev pub RestFromHistory : Type 0
  RestFromHistory =
      (p : InertialParams) (gyr_ts acc_ts : Float) (calls : List Call)
      → let f = new w p gyr_ts acc_ts in
      ToldByHistory p gyr_ts acc_ts (answered calls (answers w f calls)) (run w f calls)

-- a call that ends in 5 neither adds nor breaks, and no filter takes its sample
singular_neither : (w : Format) (d : Diary) (c : Call) → events w d (record { call = c; number = 5 } ∷ []) ≡ neither ∷ []
singular_neither w d c = refl

singular_unheard : (d : Diary) (c : Call) → written d (record { call = c; number = 5 } ∷ []) ≡ d
singular_unheard d c = refl
