-- A magnetometer step and a change of `tau_mag` test exactly the numbers that they store; all else is kept. So, on a filter that holds finite numbers,
-- the tests say whether what the call would leave is finite.
use Rattle.floats.specs.Prelude.{◌≡◌, T, Float, Format, of_bits, finite}
use Rattle.floats.specs.Tests.{both, is_true, alike, keeps}
use Rattle.floats.specs.Order.{each_finite}
use Rattle.algebra.specs.declared.vector.Vector.{Vector}
use Rattle.filters.specs.Coefficients.{gain_from_tau}
use Rattle.limits.specs.declared.updated.Tried.{Tried}
use Rattle.limits.specs.Limits.{least_tau, gain_tau_taken}
use Rattle.magnetic.specs.AllFinite.{finite_params, finite_coefficients, finite_state, all_finite}
use Rattle.magnetic.specs.Step.{tried_rejecting, tried_plain, tried}
use Rattle.magnetic.specs.Setters.{with_tau_mag, with_k_mag}
use Rattle.magnetic.specs.Answers.{after_mag, after_tau_mag}
use Rattle.magnetic.specs.Types.{Magnetic, MagneticCoefficients, MagneticParams, MagneticState, Seen}
use Rattle.magnetic.proofs.Construction.{tau_or_off, either_finite}
use Rattle.magnetic.proofs.Parts.{parts, whole, coefficient_parts, tau_mag_finite}

-- ---- the step
record Tested (t : Tried MagneticState) : Type 0 where
  enough : T t.finite → T (finite_state t.value)
  needed : T (finite_state t.value) → T t.finite

module _ (w : Format) where
  rejecting_tested : (s : MagneticState) (p : MagneticParams) (c : MagneticCoefficients) (mag_earth gyr_lp : Vector) → Tested (tried_rejecting w s p c mag_earth gyr_lp)
  unfolding tried_rejecting finite_state
  rejecting_tested s p c mag_earth gyr_lp =
      record { enough = λ t. let h = simp both at t in simp both (h.1, h.0); needed = λ t. let h = simp both at t in simp both (h.1, h.0) }

  plain_tested : (s : MagneticState) (p : MagneticParams) (c : MagneticCoefficients) (mag_earth : Vector) → T (finite_state s) → Tested (tried_plain w s p c mag_earth)
  unfolding tried_plain finite_state
  plain_tested s p c mag_earth h = record { enough = λ t. simp both (t, (simp both at h).1); needed = λ t. (simp both at t).0 }

  tried_tested : (s : MagneticState) (p : MagneticParams) (c : MagneticCoefficients) (seen : Seen) (mag : Vector) → T (finite_state s) → Tested (tried w s p c seen mag)
  unfolding tried
  tried_tested s p c seen mag h = keeps Tested seen.mag_dist_rejection_enabled _ _ (λ (_ : _). rejecting_tested s p c _ _) (plain_tested s p c _ h)

  pub mag_tested : (f : Magnetic) (seen : Seen) (mag : Vector) → T (all_finite f) → (tried w f.state f.params f.coeffs seen mag).finite ≡ all_finite (after_mag w f seen mag)
  unfolding all_finite
  mag_tested f seen mag h =
      let a = simp both at h in
      let t = tried_tested f.state f.params f.coeffs seen mag a.1 in
      alike _ _ (λ u. simp both (a.0, t.enough u)) (λ u. t.needed (simp both at u).1)

  -- ---- a change of `tau_mag`
  tau_finite : (tau : Float) → T (gain_tau_taken w tau) → T (finite tau)
  unfolding of_bits
  tau_finite tau t = either_finite w (least_tau w) tau (each_finite least_tau tt w) (tau_or_off w (least_tau w) tau t)

  params_with_tau : (p : MagneticParams) (tau : Float) → T (finite_params p) → T (finite tau) → T (finite_params (with_tau_mag p tau))
  unfolding finite_params
  params_with_tau p tau h t = rw (is_true (finite tau) t) (rw (is_true (finite p.tau_mag) (tau_mag_finite p h)) at h)

  gain_finite : (c : MagneticCoefficients) (k : Float) → T (finite_coefficients c) → T (finite k) → T (finite_coefficients (with_k_mag c k))
  unfolding finite_coefficients
  gain_finite c k h t = let d = coefficient_parts c h in simp both (((d.interval, t), d.gain_ref), d.smoothing)

  gain_tested : (c : MagneticCoefficients) (k : Float) → T (finite_coefficients (with_k_mag c k)) → T (finite k)
  gain_tested c k h = (coefficient_parts (with_k_mag c k) h).gain

  pub tau_mag_tested : (f : Magnetic) (tau : Float) → T (all_finite f) → T (gain_tau_taken w tau) → finite (gain_from_tau w tau f.coeffs.mag_ts) ≡ all_finite (after_tau_mag w f tau)
  tau_mag_tested f tau h t =
      let a = parts f h in
      alike _ _
      (λ u. whole _ (record { params = params_with_tau f.params tau a.params (tau_finite tau t); coeffs = gain_finite f.coeffs _ a.coeffs u; heading = a.heading; field = a.field }))
      (λ u. gain_tested f.coeffs _ (parts _ u).coeffs)
