-- The table of refusals for the calls of the magnetic half, over the format w: what is wrong with a call, told from the call and the filter.
use Rattle.std.specs.Prelude.{◌≡◌, false, not, ◌&&◌, T, Float}
use Rattle.std.specs.Float.{Format}
use Rattle.algebra.specs.declared.vector.Vector.{Vector}
use Rattle.filters.specs.Coefficients.{gain_from_tau}
use Rattle.limits.specs.Answers.{Kept}
use Rattle.limits.specs.Table.{Faults, setting_fault, Exactly}
use Rattle.limits.specs.Limits.{mag_taken, zero_sample, gain_tau_taken, ref_norm_taken, ref_dip_taken}
use Rattle.magnetic.specs.Told.{with_state}
use Rattle.magnetic.specs.Step.{tried}
use Rattle.magnetic.specs.Setters.{with_tau_mag, with_k_mag}
use Rattle.magnetic.specs.Calls.{Call, update_mag, set_tau_mag, set_mag_ref, reply}
use Rattle.magnetic.specs.AllFinite.{all_finite}
use Rattle.magnetic.specs.declared.types.Magnetic.{Magnetic}
use Rattle.magnetic.specs.declared.types.Seen.{Seen}

module _ (w : Format) where
  -- ---- What a call would leave, were nothing wrong with it.
  abbrev pub after_mag : Magnetic → Seen → Vector → Magnetic
  after_mag f seen mag = with_state f (tried w f.state f.params f.coeffs seen mag).value

  abbrev pub after_tau_mag : Magnetic → Float → Magnetic
  after_tau_mag f tau =
      record { params = with_tau_mag f.params tau; coeffs = with_k_mag f.coeffs (gain_from_tau w tau f.coeffs.mag_ts); state = f.state }

  -- ---- The table.
  abbrev pub mag_faults : Magnetic → Seen → Vector → Faults
  mag_faults f seen mag = record {
    bad_sample = not (mag_taken w mag);
    bad_interval = false;
    bad_setting = false;
    zero_sample = zero_sample w mag;
    singular = false;
    not_finite = not (all_finite (after_mag f seen mag));
  }

  abbrev pub tau_mag_faults : Magnetic → Float → Faults
  tau_mag_faults f tau = record {
    bad_sample = false;
    bad_interval = false;
    bad_setting = not (gain_tau_taken w tau);
    zero_sample = false;
    singular = false;
    not_finite = not (all_finite (after_tau_mag f tau));
  }

  abbrev pub faults : Magnetic → Seen → Call → Faults
  faults f seen (update_mag mag) = mag_faults f seen mag
  faults f seen (set_tau_mag tau) = tau_mag_faults f tau
  faults f seen (set_mag_ref norm dip) = setting_fault (not (ref_norm_taken w norm && ref_dip_taken w dip))

  -- on a filter that holds finite numbers, each call's answer is exactly the table's; and what a call would leave is what it leaves
  pub record Answers : Type 0 where
    pub by_table : (f : Magnetic) (seen : Seen) (c : Call) → T (all_finite f) → Exactly (faults f seen c) (reply w f seen c).number
    -- a reference is asked for its limits, whatever the filter holds
    pub mag_ref : (f : Magnetic) (seen : Seen) (norm dip : Float) → let c = set_mag_ref norm dip in Exactly (faults f seen c) (reply w f seen c).number
    -- a refused call leaves the half as it was
    pub kept : (f : Magnetic) (seen : Seen) (c : Call) → Kept f (reply w f seen c)
    pub mag_leaves : (f : Magnetic) (seen : Seen) (v : Vector) → let t = reply w f seen (update_mag v) in t.number ≡ 0 → t.left ≡ after_mag f seen v
    pub tau_mag_leaves : (f : Magnetic) (seen : Seen) (tau : Float) → let t = reply w f seen (set_tau_mag tau) in t.number ≡ 0 → t.left ≡ after_tau_mag f tau
