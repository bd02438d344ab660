-- The gyro step, over the format w.
use Rattle.std.specs.Prelude.{Bool, true, cond, ◌&&◌, ◌||◌, ℕ, Float}
use Rattle.std.specs.Float.{Format}
use Rattle.std.specs.Float.Ieee.{lt, le}
use Rattle.std.specs.Float.Ieee.Scale as scale
use Rattle.floats.specs.Notation.{rounded, two}
use Rattle.floats.specs.Definitions.{magnitude}
use Rattle.numbers.specs.Sines.{sin, cos}
use Rattle.algebra.specs.Vectors.{epsilon, both, norm, finite}
use Rattle.algebra.specs.Quaternions.{quaternion, times, normalize}
use Rattle.algebra.specs.Quaternions as quaternions
use Rattle.algebra.specs.declared.vector.Vector.{Vector}
use Rattle.algebra.specs.declared.quaternion.Quaternion.{Quaternion}
use Rattle.filters.specs.Banks.{filter_vec3, finite_channels}
use Rattle.filters.specs.declared.coeffs.Coeffs.{Coeffs}
use Rattle.limits.specs.Answers.{number}
use Rattle.limits.specs.Limits.{gyr_taken, interval_taken}
use Rattle.limits.specs.declared.updated.Tried.{Tried}
use Rattle.tilt.specs.Scalars.{square, radians}
use Rattle.tilt.specs.Rest.{squared_deviation, broken}
use Rattle.tilt.specs.declared.types.Rest.{Rest}
use Rattle.tilt.specs.declared.types.RestParams.{RestParams}
use Rattle.tilt.specs.declared.gyr.AfterGyr.{AfterGyr}

-- the numbers that a gyro sample stores in the rest group
unfoldable pub finite_gyr_rest : Rest → Bool
finite_gyr_rest r = scale.finite r.rest_last_squared_deviations.0 && finite r.rest_last_gyr_lp && finite_channels 3 r.rest_gyr_lp_state

-- the number of a gyro sample, and what it leaves of the two things that it changes
pub record ToldGyr : Type 0 where
  pub number : ℕ
  pub rest : Rest
  pub quat : Quaternion

abbrev pub told_gyr : ℕ → Rest → Quaternion → ToldGyr
told_gyr n r q = record { number = n; rest = r; quat = q }

abbrev pub after_gyr : AfterGyr → ToldGyr
after_gyr u = told_gyr (number u.answer) u.rest u.quat

module _ (w : Format) where
  open rounded w use {◌⊕◌, ◌⊖◌, ◌⊗◌, ◌⊘◌}

  -- not quiet
  unfoldable pub gyr_stirred : RestParams → Float → Vector → Bool
  gyr_stirred p d lp =
      le (square w (radians w p.rest_th_gyr)) d
      || lt (radians w p.bias_clip) (magnitude lp.0)
      || lt (radians w p.bias_clip) (magnitude lp.1)
      || lt (radians w p.bias_clip) (magnitude lp.2)

  unfoldable pub gyr_filtered : Rest → Float → Float → Coeffs → Vector → Rest
  gyr_filtered r tau ts k gyr =
      let f = filter_vec3 w gyr tau ts k r.rest_gyr_lp_state in
      record {
        rest_detected = r.rest_detected;
        rest_last_squared_deviations = record { 0 = squared_deviation w gyr f.y; 1 = r.rest_last_squared_deviations.1 };
        rest_t = r.rest_t;
        rest_last_gyr_lp = f.y;
        rest_gyr_lp_state = f.channels;
        rest_last_acc_lp = r.rest_last_acc_lp;
        rest_acc_lp_state = r.rest_acc_lp_state;
      }

  -- the filter runs at `gyr_ts`, whatever interval the sample came with
  unfoldable pub gyr_rest : Rest → RestParams → Float → Coeffs → Vector → Tried Rest
  gyr_rest r p ts k gyr =
      let f = gyr_filtered r p.rest_filter_tau ts k gyr in
      let stirred = gyr_stirred p f.rest_last_squared_deviations.0 f.rest_last_gyr_lp in
      cond (p.rest_bias_est_enabled || p.mag_dist_rejection_enabled)
      (record { finite = finite_gyr_rest f; value = cond stirred (broken w f) f })
      (record { finite = true; value = r })

  unfoldable pub turned : Quaternion → Vector → Float → Float → Quaternion
  turned q gyr n ts =
      let angle = n ⊗ ts in
      let c = cos w (angle ⊘ two w) in
      let s = sin w (angle ⊘ two w) ⊘ n in
      normalize w (times w q (quaternion c (s ⊗ gyr.0) (s ⊗ gyr.1) (s ⊗ gyr.2)))

  unfoldable pub predicted : Quaternion → Vector → Vector → Float → Tried Quaternion
  predicted q bias gyr ts =
      let unbiased = both ◌⊖◌ gyr bias in
      let n = norm w unbiased in
      let next = turned q unbiased n ts in
      cond (lt (epsilon w) n) (record { finite = quaternions.finite next; value = next }) (record { finite = true; value = q })

  unfoldable pub gyr_step : Rest → RestParams → Float → Coeffs → Quaternion → Vector → Vector → Float → ToldGyr
  gyr_step rest p gyr_ts k quat bias gyr ts =
      let r = gyr_rest rest p gyr_ts k gyr in
      let q = predicted quat bias gyr ts in
      cond (r.finite && q.finite) (told_gyr 0 r.value q.value) (told_gyr 6 rest quat)

  unfoldable pub update_gyr : Rest → RestParams → Float → Coeffs → Quaternion → Vector → Vector → Float → ToldGyr
  update_gyr rest p gyr_ts k quat bias gyr ts =
      cond (gyr_taken w gyr) (cond (interval_taken w ts) (gyr_step rest p gyr_ts k quat bias gyr ts) (told_gyr 3 rest quat)) (told_gyr 2 rest quat)
