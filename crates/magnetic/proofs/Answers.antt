-- Each call asks its questions in the table's order, and its own tests say what the table asks (`mag_tested`, `tau_mag_tested`).
use Rattle.floats.specs.Prelude.{◌≡◌, ap, ◌∙◌, Bool, not, cond, ◌&&◌, ℕ, T, Float, Format, finite}
use Rattle.algebra.specs.declared.vector.Vector.{Vector}
use Rattle.filters.specs.Coefficients.{gain_from_tau}
use Rattle.limits.specs.Answers.{Kept}
use Rattle.limits.specs.Table.{first}
use Rattle.limits.specs.Limits.{mag_taken, zero_sample, gain_tau_taken, ref_norm_taken, ref_dip_taken}
use Rattle.limits.proofs.Answers.{Says, done, refused, if, only_if, setting, then}
use Rattle.limits.proofs.Table.{exactly}
use Rattle.magnetic.specs.AllFinite.{all_finite}
use Rattle.magnetic.specs.Step.{tried, mag_step, update_mag}
use Rattle.magnetic.specs.Setters.{set_tau_mag, set_mag_ref}
use Rattle.magnetic.specs.Told.{norm_dip, state_of, with_state, with_reference}
use Rattle.magnetic.specs.Calls as calls
use Rattle.magnetic.specs.Answers.{after_mag, after_tau_mag, faults, Answers}
use Rattle.magnetic.specs.Types.{Magnetic, Seen}
use Rattle.magnetic.proofs.Tested.{mag_tested, tau_mag_tested}

module _ (w : Format) where
  abbrev mag_number : Vector → Bool → ℕ
  mag_number v finite = cond (not (mag_taken w v)) 2 (cond (zero_sample w v) 1 (cond (not finite) 6 0))

  mag_says : (f : Magnetic) (s : Seen) (v : Vector)
      → Says (mag_number v (tried w f.state f.params f.coeffs s v).finite) (after_mag w f s v) f (update_mag w f s v)
  unfolding update_mag mag_step
  mag_says f s v =
      only_if (mag_taken w v) (if (zero_sample w v) refused (only_if (tried w f.state f.params f.coeffs s v).finite done refused)) refused

  tau_mag_says : (f : Magnetic) (tau : Float)
      → let fits = finite (gain_from_tau w tau f.coeffs.mag_ts) in
      Says (cond (not (gain_tau_taken w tau)) 4 (cond (not fits) 6 0)) (after_tau_mag w f tau) f (set_tau_mag w f tau)
  unfolding set_tau_mag
  tau_mag_says f tau = only_if (gain_tau_taken w tau) (only_if (finite (gain_from_tau w tau f.coeffs.mag_ts)) done refused) refused

  mag_ref_says : (f : Magnetic) (s : Seen) (norm dip : Float)
      → let g = f.state.field in
      Says (first (faults w f s (calls.set_mag_ref norm dip)))
      (with_state f (state_of f.state.heading (with_reference g g.mag_dist_detected (norm_dip norm dip) g.mag_undisturbed_t))) f (set_mag_ref w f norm dip)
  unfolding set_mag_ref
  mag_ref_says f s norm dip = setting (ref_norm_taken w norm && ref_dip_taken w dip) _ f

  answered : (f : Magnetic) (s : Seen) (c : calls.Call) → T (all_finite f) → (calls.reply w f s c).number ≡ first (faults w f s c)
  answered f s (calls.update_mag v) h = (mag_says f s v).number ∙ ap (mag_number v) (mag_tested w f s v h)
  answered f s (calls.set_tau_mag tau) h =
      (tau_mag_says f tau).number ∙ then (gain_tau_taken w tau) 4 (λ t. ap (λ (finite : Bool). cond (not finite) 6 0) (tau_mag_tested w f tau h t))
  answered f s (calls.set_mag_ref norm dip) h = (mag_ref_says f s norm dip).number

  kept : (f : Magnetic) (s : Seen) (c : calls.Call) → Kept f (calls.reply w f s c)
  kept f s (calls.update_mag v) = (mag_says f s v).kept
  kept f s (calls.set_tau_mag tau) = (tau_mag_says f tau).kept
  kept f s (calls.set_mag_ref norm dip) = (mag_ref_says f s norm dip).kept

  pub answers : Answers w
  answers = record {
    by_table = λ f s c h. exactly (faults w f s c) _ (answered f s c h);
    mag_ref = λ f s norm dip. exactly (faults w f s (calls.set_mag_ref norm dip)) _ (mag_ref_says f s norm dip).number;
    kept = kept;
    mag_leaves = λ f s v. (mag_says f s v).done;
    tau_mag_leaves = λ f s tau. (tau_mag_says f tau).done;
  }
