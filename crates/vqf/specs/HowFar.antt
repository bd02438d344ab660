-- How far heading and bias can go: what holds after any calls on a filter that was built, setters and refused calls among them, over the format w.
use Rattle.std.specs.Prelude.{◌≡◌, List, T, Option, Float}
use Rattle.std.specs.Float.{Format}
use Rattle.std.specs.Float.Ieee.{le, fits}
use Rattle.floats.specs.Notation.{rounded, zero}
use Rattle.floats.specs.Order.{Within}
use Rattle.algebra.specs.declared.vector.Vector.{Vector}
use Rattle.filters.specs.Bounds.{Gain}
use Rattle.filters.specs.Counts.{all_from_zero}
use Rattle.tilt.specs.Scalars.{radians}
use Rattle.inertial.specs.HowFar.{AllWithin, sigma_of}
use Rattle.magnetic.specs.HowFar.{Angle, gain_used, Moved}
use Rattle.vqf.specs.Asked.{delta, bias_estimate}
use Rattle.vqf.specs.Build.{new}
use Rattle.vqf.specs.Update.{seen, update_mag}
use Rattle.vqf.specs.Calls.{Call, run}
use Rattle.vqf.specs.StaysFinite.{StaysFinite}
use Rattle.vqf.specs.declared.types.VQF.{VQF}
use Rattle.vqf.specs.declared.types.Params.{Params}

abbrev pub clip_of : VQF → Float
clip_of f = f.inertial.params.rest.bias_clip

module _ (w : Format) where
  open rounded w use {◌⊕◌}

  pub record Bounded (f : VQF) : Type 0 where
    -- "delta lies within ±PI"
    pub heading : Angle w (delta f)
    pub disagreement : Angle w f.magnetic.state.heading.last_mag_dis_angle
    -- "each bias component within the clip", in radians as the gyro step has it
    pub bias : AllWithin (radians w (clip_of f)) f.inertial.state.bias.bias
    -- "the magnetic gain used between 0 and 1": that of the sample that comes next, whatever it is, and the gains that it comes of
    pub gain : (mag : Vector) → Gain w (gain_used w f.magnetic (seen w f.inertial) mag)
    pub k_mag : Gain w f.magnetic.coeffs.k_mag
    pub k_mag_init : Gain w f.magnetic.state.heading.k_mag_init
    pub k_mag_ref : Gain w f.magnetic.coeffs.k_mag_ref
    -- an accepted sample moves the heading by no more than that gain times PI
    pub moved : (mag : Vector) → let t = update_mag w f mag in t.number ≡ 0
        → Moved w f.magnetic.state.heading (gain_used w f.magnetic (seen w f.inertial) mag) t.left.magnetic.state.heading
    -- ---- the times: the first up to its limit and an interval, where that setting is a value of the format, as every setting of the code is
    pub reject_t : T (fits w f.magnetic.params.mag_max_rejection_time)
        → Within f.magnetic.state.field.mag_reject_t (zero w) (f.magnetic.params.mag_max_rejection_time ⊕ f.magnetic.coeffs.mag_ts)
    pub rest_t : T (le (zero w) f.inertial.state.rest.rest_t)
    pub undisturbed_t : T (le (zero w) f.magnetic.state.field.mag_undisturbed_t)
    pub candidate_t : T (le (zero w) f.magnetic.state.field.mag_candidate_t)
    -- ---- the counts of the filters
    pub acc_count : T (all_from_zero 3 f.inertial.state.inclination.acc_lp_state)
    pub rest_gyr_count : T (all_from_zero 3 f.inertial.state.rest.rest_gyr_lp_state)
    pub rest_acc_count : T (all_from_zero 3 f.inertial.state.rest.rest_acc_lp_state)
    pub rotation_count : T (all_from_zero 9 f.inertial.state.bias.motion_bias_est_rlp_state)
    pub bias_count : T (all_from_zero 2 f.inertial.state.bias.motion_bias_est_bias_lp_state)
    pub norm_dip_count : T (all_from_zero 2 f.magnetic.state.field.mag_norm_dip_lp_state)

-- whether the construction was accepted or gave the house filter beside its 4
pub record HowFar : Type 0 where
  pub bounded : (w : Format) (gyr_ts : Float) (acc_ts mag_ts : Option Float) (given : Option Params) (calls : List Call) → Bounded w (run w (new w gyr_ts acc_ts mag_ts given).left calls)
  -- the clip is the filter's own: no call changes it
  pub clip_kept : (w : Format) (gyr_ts : Float) (acc_ts mag_ts : Option Float) (given : Option Params) (calls : List Call)
      → let f = (new w gyr_ts acc_ts mag_ts given).left in clip_of (run w f calls) ≡ clip_of f
  -- "every stored number is finite". The covariance has no other bound; the sigma that is told of it is no larger than that of the first covariance
  pub finite : (w : Format) → StaysFinite w
  pub sigma : (w : Format) (gyr_ts : Float) (acc_ts mag_ts : Option Float) (given : Option Params) (calls : List Call)
      → let f = run w (new w gyr_ts acc_ts mag_ts given).left calls in
      Within (bias_estimate w f).sigma (zero w) (sigma_of w f.inertial.coeffs.bias.bias_p0)
