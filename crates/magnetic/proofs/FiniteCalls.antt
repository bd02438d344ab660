-- Each call on the magnetic half keeps its numbers finite: it stores what it has tested, what is within limits, or constants.
use Rattle.floats.specs.Prelude.{subst, ◌&&◌, T, Float, Format, of_bits, neg, finite}
use Rattle.floats.specs.Notation.{zero}
use Rattle.floats.specs.Tests.{both, is_true, keeps}
use Rattle.floats.specs.Order.{between_finite}
use Rattle.algebra.specs.declared.vector.Vector.{Vector}
use Rattle.filters.specs.Coefficients.{gain_from_tau}
use Rattle.limits.specs.Answers.{Told, told}
use Rattle.limits.specs.Limits.{mag_taken, zero_sample, gain_tau_taken, ref_norm_taken, ref_dip_taken, ref_norm_limit, ref_dip_limit}
use Rattle.magnetic.specs.AllFinite.{finite_params, all_finite}
use Rattle.magnetic.specs.Fields.{finite_field}
use Rattle.magnetic.specs.Step.{tried, mag_step, update_mag}
use Rattle.magnetic.specs.Setters.{set_tau_mag, set_mag_ref, restarted, reset_state}
use Rattle.magnetic.specs.Told.{norm_dip, state_of, with_state, with_reference}
use Rattle.magnetic.specs.Types.{Field, Magnetic, MagneticParams, Seen}
use Rattle.magnetic.proofs.Parts.{parts, whole, field_parts}
use Rattle.magnetic.proofs.Construction.{restarted_field_finite, fresh_finite}
use Rattle.magnetic.proofs.Tested.{mag_tested, tau_mag_tested}

abbrev Fine : Magnetic → Type 0
Fine f = T (all_finite f)

abbrev Left : Told Magnetic → Type 0
Left t = Fine t.left

with_field : (f : Magnetic) (g : Field) → Fine f → T (finite_field g) → Fine (with_state f (state_of f.state.heading g))
with_field f g h k = let p = parts f h in whole _ (record { params = p.params; coeffs = p.coeffs; heading = p.heading; field = k })

field_with_reference : (g : Field) (norm dip : Float) → T (finite_field g) → T (finite norm) → T (finite dip)
    → T (finite_field (with_reference g g.mag_dist_detected (norm_dip norm dip) g.mag_undisturbed_t))
unfolding finite_field
field_with_reference g norm dip h a b =
    let k = field_parts g h in
    rw (is_true (finite norm) a, is_true (finite dip) b) (rw (is_true (finite g.mag_ref_norm) k.ref_norm, is_true (finite g.mag_ref_dip) k.ref_dip) at h)

longest_finite : (p : MagneticParams) → T (finite_params p) → T (finite p.mag_max_rejection_time)
unfolding finite_params
longest_finite p h = (simp both at h).0.1

module _ (w : Format) where
  pub update_mag_finite : (f : Magnetic) (seen : Seen) (mag : Vector) → Fine f → Left (update_mag w f seen mag)
  unfolding update_mag mag_step
  update_mag_finite f seen mag h =
      keeps Left (mag_taken w mag) _ (told 2 f)
      (λ _.
      keeps Left (zero_sample w mag) (told 1 f) _ (λ _. h)
      (keeps Left (tried w f.state f.params f.coeffs seen mag).finite _ (told 6 f) (subst T (mag_tested w f seen mag h)) h))
      h

  -- ---- the setters
  pub set_tau_mag_finite : (f : Magnetic) (tau : Float) → Fine f → Left (set_tau_mag w f tau)
  unfolding set_tau_mag
  set_tau_mag_finite f tau h =
      keeps Left (gain_tau_taken w tau) _ (told 4 f)
      (λ t. keeps Left (finite (gain_from_tau w tau f.coeffs.mag_ts)) _ (told 6 f) (subst T (tau_mag_tested w f tau h t)) h)
      h

  pub set_mag_ref_finite : (f : Magnetic) (norm dip : Float) → Fine f → Left (set_mag_ref w f norm dip)
  unfolding set_mag_ref neg of_bits
  set_mag_ref_finite f norm dip h =
      keeps Left (ref_norm_taken w norm && ref_dip_taken w dip) _ _
      (λ t.
      let v = simp both at t in
      with_field f _ h
      (field_with_reference f.state.field norm dip (parts f h).field (between_finite zero ref_norm_limit tt w norm v.0) (between_finite (λ w. neg (ref_dip_limit w)) ref_dip_limit tt w dip v.1)))
      h

  -- ---- a fresh start
  pub restarted_finite : (f : Magnetic) → Fine f → Fine (restarted w f)
  unfolding restarted
  restarted_finite f h =
      let p = parts f h in
      let g = field_parts _ p.field in
      with_field f _ h (restarted_field_finite w f.params f.state.field.mag_norm_dip (longest_finite f.params p.params) g.norm g.dip)

  pub reset_finite : (f : Magnetic) → Fine f → Fine (reset_state w f)
  unfolding reset_state
  reset_finite f h =
      let p = parts f h in
      let s = fresh_finite w f.params (longest_finite f.params p.params) in
      whole _ (record { params = p.params; coeffs = p.coeffs; heading = s.0; field = s.1 })
