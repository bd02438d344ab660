-- No time and no count of these groups is below 0: the accelerometer's interval is added to the time of rest, or it begins again at 0, and each filter counts from 0.
use Rattle.floats.specs.Prelude.{◌||◌, T, Float, Format, le}
use Rattle.floats.specs.Notation.{zero}
use Rattle.floats.specs.Tests.{keeps}
use Rattle.floats.proofs.FromZero.{zero_from, sum_from_zero}
use Rattle.algebra.specs.declared.vector.Vector.{Vector}
use Rattle.filters.specs.Banks.{filter_vec3, adapt3}
use Rattle.filters.specs.Counts.{all_from_zero}
use Rattle.filters.proofs.Counts.{channels_from_zero, adapted_from_zero, fresh_from_zero}
use Rattle.filters.specs.declared.coeffs.Coeffs.{Coeffs}
use Rattle.limits.specs.declared.updated.Tried.{Tried}
use Rattle.tilt.specs.Rest.{broken}
use Rattle.tilt.specs.Gyr.{gyr_rest, gyr_filtered, gyr_stirred}
use Rattle.tilt.specs.Acc.{acc_rest, acc_filtered, counted, acc_stirred, inclined, acc_lowpassed}
use Rattle.tilt.specs.Setup.{fresh_rest, fresh_inclination}
use Rattle.tilt.specs.Setters.{adapted_inclination}
use Rattle.tilt.specs.Types.{Inclination, Rest, RestParams}

abbrev pub InclinationHeld : Inclination → Type 0
InclinationHeld i = T (all_from_zero 3 i.acc_lp_state)

pub adapted_inclination_held : (i : Inclination) (old new : Coeffs) → InclinationHeld i → InclinationHeld (adapted_inclination i old new)
unfolding adapted_inclination adapt3
adapted_inclination_held i old new h = adapted_from_zero 3 _ _ _ _ h

module _ (w : Format) where
  abbrev pub RestHeld : Rest → Type 0
  RestHeld r = T (le (zero w) r.rest_t) × T (all_from_zero 3 r.rest_gyr_lp_state) × T (all_from_zero 3 r.rest_acc_lp_state)

  abbrev TriedHeld : Tried Rest → Type 0
  TriedHeld t = RestHeld t.value

  pub rest_fresh : RestHeld (fresh_rest w)
  unfolding fresh_rest
  rest_fresh = (zero_from w, fresh_from_zero 3, fresh_from_zero 3)

  pub inclination_fresh : InclinationHeld (fresh_inclination w)
  unfolding fresh_inclination
  inclination_fresh = fresh_from_zero 3

  module _ (r : Rest) (p : RestParams) (ts : Float) (k : Coeffs) (v : Vector) (h : RestHeld r) where
    pub gyr_rest_held : TriedHeld (gyr_rest w r p ts k v)
    unfolding gyr_rest gyr_filtered broken filter_vec3
    gyr_rest_held =
        let lp = gyr_filtered w r p.rest_filter_tau ts k v in
        let bank = channels_from_zero w 3 _ p.rest_filter_tau ts k r.rest_gyr_lp_state h.1 in
        keeps TriedHeld (p.rest_bias_est_enabled || p.mag_dist_rejection_enabled) _ _
        (λ _. keeps RestHeld (gyr_stirred w p lp.rest_last_squared_deviations.0 lp.rest_last_gyr_lp) _ _ (λ _. (zero_from w, bank, h.2)) (h.0, bank, h.2))
        h

    pub acc_rest_held : T (le (zero w) ts) → TriedHeld (acc_rest w r p ts k v)
    unfolding acc_rest acc_filtered counted broken filter_vec3
    acc_rest_held from =
        let lp = acc_filtered w r p.rest_filter_tau ts k v in
        let bank = channels_from_zero w 3 _ p.rest_filter_tau ts k r.rest_acc_lp_state h.2 in
        keeps TriedHeld p.rest_bias_est_enabled _ _
        (λ _. keeps TriedHeld (acc_stirred w p lp) _ _ (λ _. (zero_from w, h.1, bank)) (sum_from_zero w r.rest_t ts h.0 from, h.1, bank))
        h

  pub inclined_held : (i : Inclination) (tau ts : Float) (k : Coeffs) (v : Vector) → InclinationHeld i → InclinationHeld (inclined w i tau ts k v).inclination
  unfolding inclined acc_lowpassed filter_vec3
  inclined_held i tau ts k v h = channels_from_zero w 3 _ tau ts k i.acc_lp_state h
