-- An answer is a number that the filter stores, or follows from what every filter that was reached holds: see Sound.antt of `inertial`.
-- The roots are of finite radicands and are divided by thresholds, the quaternions multiplied are small, and half the heading lies within the domain of sine
-- and cosine.
use Rattle.floats.specs.Prelude.{T, Float, Format, binary32, binary64, of_bits, le, finite}
use Rattle.floats.specs.Notation.{pi}
use Rattle.floats.specs.Decimals.{half_turn}
use Rattle.floats.specs.Tests.{both}
use Rattle.floats.specs.Order.{nought, Within}
use Rattle.floats.specs.Products.{finite_number}
use Rattle.floats.specs.Intervals.{Known, none, known, Expr, var, lit, mul', div', bound, good, is_finite}
use Rattle.numbers.specs.Root.{root}
use Rattle.numbers.proofs.RootOrder.{root_limit, root_within}
use Rattle.algebra.proofs.Normalized.{times_within, times_finite, apply_delta_finite}
use Rattle.limits.specs.Limits.{least_threshold, threshold_limit}
use Rattle.inertial.specs.AllFinite as inertial_finite
use Rattle.tilt.specs.Acc.{finite_acc_rest}
use Rattle.tilt.specs.Gyr.{finite_gyr_rest}
use Rattle.tilt.specs.Asked as tilt
use Rattle.inertial.specs.Asked as inertial
use Rattle.inertial.specs.declared.types.Inertial.{Inertial}
use Rattle.inertial.proofs.Parts.{parts, state_parts, bias_parts}
use Rattle.inertial.proofs.Construction.{Threshold}
use Rattle.inertial.proofs.Sound.{Radicand, Sound, reached_sound}
use Rattle.inertial.proofs.Sigma.{sigma_finite}
use Rattle.magnetic.specs.Headings.{finite_heading}
use Rattle.magnetic.specs.HowFar.{Angle}
use Rattle.magnetic.proofs.Parts as magnetic
use Rattle.vqf.specs.AllFinite.{all_finite}
use Rattle.vqf.specs.AnswersFinite.{AnswersFinite, AnswersStayFinite}
use Rattle.vqf.specs.Asked.{delta}
use Rattle.vqf.specs.declared.types.VQF.{VQF}
use Rattle.vqf.proofs.HowFar.{how_far}
use Rattle.vqf.proofs.Reached.{reached}
use Rattle.vqf.proofs.StaysFinite.{stays_finite}

-- ---- the roots
abbrev rooted : (w : Format) (r th : Float) → Within r nought (root_limit w) → Threshold w th → Known
rooted w r th v t = known r nought (root_limit w) v (known th (least_threshold w) (threshold_limit w) t none)

abbrev radians' : Format → Expr
radians' w = mul' (var 1) (div' (lit (pi w)) (lit (half_turn w)))

record Computed (w : Format) : Type 0 where
  in_radians : (r th : Float) (v : Within r nought (root_limit w)) (t : Threshold w th) → T (good (bound w (rooted w r th v t) (div' (var 0) (radians' w))))
  plain : (r th : Float) (v : Within r nought (root_limit w)) (t : Threshold w th) → T (good (bound w (rooted w r th v t) (div' (var 0) (var 1))))

computed : (w : Format) → Computed w
unfolding bound le of_bits
computed binary32 = record { in_radians = λ r th v t. tt; plain = λ r th v t. tt }
computed binary64 = record { in_radians = λ r th v t. tt; plain = λ r th v t. tt }

module _ (w : Format) where
  root_small : (x : Float) → Radicand w x → T (finite x) → Within (root w x) nought (root_limit w)
  root_small x r p = root_within w x r.0 p (r.1 (finite_number x p))

  -- ---- the answers of the inertial half
  deviations_finite : (f : Inertial) → T (inertial_finite.all_finite f) → Sound w f → T (finite (inertial.relative_rest_deviations w f).0) × T (finite (inertial.relative_rest_deviations w f).1)
  unfolding finite_gyr_rest finite_acc_rest tilt.relative_rest_deviations
  deviations_finite f h k =
      let s = state_parts _ (parts f h).state in
      let g = root_small _ k.squares.0 (simp both at s.gyr_rest).0.0 in
      let a = root_small _ k.squares.1 (simp both at s.acc_rest).0.0.0 in
      let t = k.thresholds in
      (is_finite w (rooted w _ _ g t.0) (div' (var 0) (radians' w)) ((computed w).in_radians _ _ g t.0), is_finite w (rooted w _ _ a t.1) (div' (var 0) (var 1)) ((computed w).plain _ _ a t.1))

  answers : (f : VQF) → T (all_finite f) → Sound w f.inertial → Angle w (delta f) → AnswersFinite w f
  unfolding all_finite tilt.quat_6d inertial.bias_estimate finite_heading
  answers f h k t =
      let a = simp both at h in
      let s = state_parts _ (parts f.inertial a.0).state in
      let m = magnetic.parts f.magnetic a.1 in
      let r = magnetic.field_parts _ m.field in
      let d = deviations_finite f.inertial a.0 k in
      record {
        quat_3d = s.gyr_quat;
        quat_6d = times_finite w _ _ k.tilt.1 k.tilt.0;
        quat_9d = apply_delta_finite w _ (delta f) (times_within w _ _ k.tilt.1 k.tilt.0) t;
        delta = (simp both at m.heading).0.0.0;
        bias = (bias_parts _ s.bias).bias;
        bias_sigma = sigma_finite w f.inertial a.0 k;
        gyr_deviation = d.0;
        acc_deviation = d.1;
        mag_ref_norm = r.ref_norm;
        mag_ref_dip = r.ref_dip;
      }

  pub answers_finite : AnswersStayFinite w
  answers_finite gyr_ts acc_ts mag_ts given calls =
      answers _ (stays_finite w gyr_ts acc_ts mag_ts given calls) (reached w (Sound w) (reached_sound w) gyr_ts acc_ts mag_ts given calls) (how_far.bounded w gyr_ts acc_ts mag_ts given calls).heading
