-- What an inertial half holds beside finite numbers: small quaternions, radicands that are not negative, thresholds within their limits.
-- A construction makes it so and each call keeps it: it stores normalised quaternions that it found finite, sums of squares, thresholds that it took.
use Rattle.floats.specs.Prelude.{◌||◌, Bool_beq, List, T, Float, Format, binary32, binary64, of_bits, mul, sub, lt, le, fits, add-fits, mul-fits}
use Rattle.floats.specs.Notation.{zero}
use Rattle.floats.specs.Tests.{both, keeps}
use Rattle.floats.proofs.FromZero.{Unsigned, square_unsigned, sum_unsigned}
use Rattle.algebra.specs.Vectors as vectors
use Rattle.algebra.specs.declared.vector.Vector.{Vector}
use Rattle.algebra.specs.declared.quaternion.Quaternion.{Quaternion}
use Rattle.algebra.proofs.Normalized.{AllSmall, identity_small, normalized_small}
use Rattle.filters.specs.declared.coeffs.Coeffs.{Coeffs}
use Rattle.limits.specs.declared.updated.Tried.{Tried}
use Rattle.inertial.specs.Setup.{taken, bias_coefficients, setup, fresh_state, new}
use Rattle.tilt.specs.Setup.{fresh_rest, fresh_inclination}
use Rattle.tilt.specs.Rest.{squared_deviation, broken}
use Rattle.tilt.specs.Gyr.{gyr_stirred, gyr_filtered, gyr_rest, turned, predicted}
use Rattle.tilt.specs.Acc.{finite_inclination, acc_filtered, counted, acc_stirred, acc_rest, acc_lowpassed, inclined}
use Rattle.tilt.specs.Setters.{adapted_inclination}
use Rattle.inertial.specs.Setters as setters
use Rattle.inertial.specs.Calls.{Call, run}
use Rattle.inertial.specs.Answers.{inclination_of}
use Rattle.tilt.specs.declared.types.Deviations.{Deviations}
use Rattle.inertial.specs.Types.{Inertial, InertialParams}
use Rattle.tilt.specs.declared.types.Rest.{Rest}
use Rattle.tilt.specs.declared.types.RestParams.{RestParams}
use Rattle.inertial.proofs.Construction.{Threshold, opened}
use Rattle.inertial.proofs.Invariants.{Invariant, reached}

-- a value of the format that is a NaN or at least zero
abbrev pub Radicand : Format → Float → Type 0
Radicand w x = T (fits w x) × Unsigned x

nought_radicand : (w : Format) → Radicand w (zero w)
unfolding of_bits fits le
nought_radicand binary32 = (tt, λ (_ : _). tt)
nought_radicand binary64 = (tt, λ (_ : _). tt)

-- the squared deviations of both sensors
abbrev Squares : Format → Deviations → Type 0
Squares w d = Radicand w d.0 × Radicand w d.1

pub record Holds (w : Format) (gyr_quat acc_quat : Quaternion) (squared : Deviations) (th_gyr th_acc p0 : Float) : Type 0 where
  pub tilt : AllSmall w gyr_quat × AllSmall w acc_quat
  pub squares : Squares w squared
  pub thresholds : Threshold w th_gyr × Threshold w th_acc
  pub variance : Radicand w p0

abbrev pub Sound : Format → Inertial → Type 0
Sound w f =
    Holds w f.state.inclination.gyr_quat f.state.inclination.acc_quat f.state.rest.rest_last_squared_deviations
    f.params.rest.rest_th_gyr f.params.rest.rest_th_acc f.coeffs.bias.bias_p0

module _ (w : Format) where
  -- ---- radicands
  square_radicand : (x : Float) → Radicand w (mul w x x)
  square_radicand x = (mul-fits w x x, square_unsigned w x)

  deviation_radicand : (x lp : Vector) → Radicand w (squared_deviation w x lp)
  unfolding squared_deviation
  deviation_radicand x lp =
      let s : (i : Float) → Unsigned (mul w i i) = square_unsigned w in
      (add-fits w _ _, sum_unsigned w _ _ (sum_unsigned w _ _ (s _) (s _)) (s _))

  -- ---- a construction
  new_sound : (p : InertialParams) (gyr_ts acc_ts : Float) → T (taken w p gyr_ts acc_ts) → Sound w (new w p gyr_ts acc_ts)
  unfolding new setup bias_coefficients fresh_state fresh_rest fresh_inclination
  new_sound p gyr_ts acc_ts t =
      let r = (opened w p gyr_ts acc_ts t).rest in
      record { tilt = (identity_small w, identity_small w); squares = (nought_radicand w, nought_radicand w); thresholds = (r.th_gyr, r.th_acc); variance = square_radicand _ }

  -- ---- the rest group
  abbrev Squared : Rest → Type 0
  Squared r = Squares w r.rest_last_squared_deviations

  module _ (r : Rest) (p : RestParams) (ts : Float) (k : Coeffs) (v : Vector) (h : Squared r) where
    gyr_rest_squared : Squared (gyr_rest w r p ts k v).value
    unfolding gyr_rest gyr_filtered broken
    gyr_rest_squared =
        let f = gyr_filtered w r p.rest_filter_tau ts k v in
        let now : Squared f = (deviation_radicand v f.rest_last_gyr_lp, h.1) in
        keeps (λ (t : Tried Rest). Squared t.value) (p.rest_bias_est_enabled || p.mag_dist_rejection_enabled) _ _
        (λ _. keeps Squared (gyr_stirred w p f.rest_last_squared_deviations.0 f.rest_last_gyr_lp) _ _ (λ _. now) now)
        h

    acc_rest_squared : Squared (acc_rest w r p ts k v).value
    unfolding acc_rest acc_filtered broken counted
    acc_rest_squared =
        let f = acc_filtered w r p.rest_filter_tau ts k v in
        let now : Squared f = (h.0, deviation_radicand v f.rest_last_acc_lp) in
        keeps (λ (t : Tried Rest). Squared t.value) p.rest_bias_est_enabled _ _
        (λ _. keeps (λ (t : Tried Rest). Squared t.value) (acc_stirred w p f) _ _ (λ _. now) now)
        h

  -- ---- the gyro step
  predicted_small : (q : Quaternion) (bias gyr : Vector) (ts : Float) → AllSmall w q → T (predicted w q bias gyr ts).finite → AllSmall w (predicted w q bias gyr ts).value
  unfolding predicted turned
  predicted_small q bias gyr ts h =
      keeps (λ (t : Tried Quaternion). T t.finite → AllSmall w t.value) (lt (vectors.epsilon w) (vectors.norm w (vectors.both (sub w) gyr bias))) _ _
      (λ _. normalized_small w _) (λ _. h)

  -- ---- the accelerometer step
  inclined_small : (f : Inertial) (acc : Vector) → Sound w f → T (inclination_of w f acc).finite → let i = (inclination_of w f acc).inclination in AllSmall w i.gyr_quat × AllSmall w i.acc_quat
  unfolding inclined acc_lowpassed finite_inclination
  inclined_small f acc h t = (h.tilt.0, normalized_small w _ (simp both at t).0.0.0)

  -- ---- any calls
  sound : Invariant w (Sound w)
  unfolding adapted_inclination setters.set_motion_bias_est_enabled setters.set_rest_bias_est_enabled setters.set_mag_dist_rejection_enabled setters.reset_state fresh_state fresh_rest fresh_inclination
  sound = record {
    built = new_sound;
    gyr = λ f h v ts t. record {
      tilt = (predicted_small f.state.inclination.gyr_quat f.state.bias.bias v ts h.tilt.0 (simp both at t).1, h.tilt.1);
      squares = gyr_rest_squared f.state.rest f.params.rest f.coeffs.gyr_ts f.coeffs.rest_gyr_lp v h.squares;
      thresholds = h.thresholds;
      variance = h.variance;
    };
    acc = λ f h v t. record {
      tilt = inclined_small f v h (simp both at t).0.1;
      squares = acc_rest_squared f.state.rest f.params.rest f.coeffs.acc_ts f.coeffs.rest_acc_lp v h.squares;
      thresholds = h.thresholds;
      variance = h.variance;
    };
    tau_acc = λ f h tau. h;
    motion = λ f h on. keeps (Sound w) (Bool_beq f.params.bias.motion_bias_est_enabled on) f _ (λ _. h) h;
    rest = λ f h on. keeps (Sound w) (Bool_beq f.params.rest.rest_bias_est_enabled on) f _ (λ _. h)
        (record { tilt = h.tilt; squares = (nought_radicand w, nought_radicand w); thresholds = h.thresholds; variance = h.variance });
    dist = λ f h on. h;
    thresholds = λ f h g a t. record { tilt = h.tilt; squares = h.squares; thresholds = simp both at t; variance = h.variance };
    bias = λ f h v sigma _. h;
    reset = λ f h. record { tilt = (identity_small w, identity_small w); squares = (nought_radicand w, nought_radicand w); thresholds = h.thresholds; variance = h.variance };
  }

  pub reached_sound : (p : InertialParams) (gyr_ts acc_ts : Float) (cs : List Call) → T (taken w p gyr_ts acc_ts) → Sound w (run w (new w p gyr_ts acc_ts) cs)
  reached_sound = reached w (Sound w) sound
