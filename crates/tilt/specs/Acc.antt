-- What an accelerometer step does to rest and to the inclination, over the format w.
use Rattle.std.specs.Prelude.{Bool, true, cond, ◌&&◌, ◌||◌, Float}
use Rattle.std.specs.Float.{Format}
use Rattle.std.specs.Float.Ieee.{neg, lt, le}
use Rattle.std.specs.Float.Ieee.Scale as scale
use Rattle.floats.specs.Notation.{rounded, zero, half, one, two}
use Rattle.floats.specs.Decimals.{millionth}
use Rattle.numbers.specs.Root.{root}
use Rattle.numbers.specs.Arcs.{acos}
use Rattle.algebra.specs.Vectors.{finite, normalize}
use Rattle.algebra.specs.Quaternions.{quaternion, times, rotate}
use Rattle.algebra.specs.Quaternions as quaternions
use Rattle.algebra.specs.declared.vector.Vector.{Vector}
use Rattle.algebra.specs.declared.quaternion.Quaternion.{Quaternion}
use Rattle.filters.specs.Banks.{filter_vec3, finite_channels}
use Rattle.filters.specs.declared.coeffs.Coeffs.{Coeffs}
use Rattle.limits.specs.declared.updated.Tried.{Tried}
use Rattle.tilt.specs.Scalars.{square}
use Rattle.tilt.specs.Rest.{squared_deviation, broken}
use Rattle.tilt.specs.declared.types.Inclination.{Inclination}
use Rattle.tilt.specs.declared.types.Rest.{Rest}
use Rattle.tilt.specs.declared.types.RestParams.{RestParams}
use Rattle.tilt.specs.declared.acc.TriedInclination.{TriedInclination}

-- the numbers that a sample stores in the rest group and in the inclination
unfoldable pub finite_acc_rest : Rest → Bool
finite_acc_rest r =
    scale.finite r.rest_last_squared_deviations.1
    && scale.finite r.rest_t
    && finite r.rest_last_acc_lp
    && finite_channels 3 r.rest_acc_lp_state

unfoldable pub finite_inclination : Inclination → Bool
finite_inclination i =
    quaternions.finite i.acc_quat
    && finite i.last_acc_lp
    && finite_channels 3 i.acc_lp_state
    && scale.finite i.last_acc_corr_angular_rate

module _ (w : Format) where
  open rounded w use {◌⊕◌, ◌⊗◌, ◌⊘◌}

  unfoldable pub acc_filtered : Rest → Float → Float → Coeffs → Vector → Rest
  acc_filtered r tau ts k acc =
      let f = filter_vec3 w acc tau ts k r.rest_acc_lp_state in
      record {
        rest_detected = r.rest_detected;
        rest_last_squared_deviations = record { 0 = r.rest_last_squared_deviations.0; 1 = squared_deviation w acc f.y };
        rest_t = r.rest_t;
        rest_last_gyr_lp = r.rest_last_gyr_lp;
        rest_gyr_lp_state = r.rest_gyr_lp_state;
        rest_last_acc_lp = f.y;
        rest_acc_lp_state = f.channels;
      }

  unfoldable pub counted : Rest → Float → Float → Rest
  counted r min_t ts =
      let t = r.rest_t ⊕ ts in
      record {
        rest_detected = le min_t t || r.rest_detected;
        rest_last_squared_deviations = r.rest_last_squared_deviations;
        rest_t = t;
        rest_last_gyr_lp = r.rest_last_gyr_lp;
        rest_gyr_lp_state = r.rest_gyr_lp_state;
        rest_last_acc_lp = r.rest_last_acc_lp;
        rest_acc_lp_state = r.rest_acc_lp_state;
      }

  abbrev pub acc_stirred : RestParams → Rest → Bool
  acc_stirred p r = le (square w p.rest_th_acc) r.rest_last_squared_deviations.1

  abbrev pub acc_tried : Rest → Tried Rest
  acc_tried r = record { finite = finite_acc_rest r; value = r }

  unfoldable pub acc_rest : Rest → RestParams → Float → Coeffs → Vector → Tried Rest
  acc_rest r p ts k acc =
      let f = acc_filtered r p.rest_filter_tau ts k acc in
      cond p.rest_bias_est_enabled
      (cond (acc_stirred p f) (acc_tried (broken w f)) (acc_tried (counted f p.rest_min_t ts)))
      (record { finite = true; value = r })

  unfoldable pub acc_lowpassed : Inclination → Float → Float → Coeffs → Vector → Inclination
  acc_lowpassed i tau ts k acc =
      let f = filter_vec3 w (rotate w i.gyr_quat acc) tau ts k i.acc_lp_state in
      record {
        gyr_quat = i.gyr_quat;
        acc_quat = i.acc_quat;
        last_acc_lp = f.y;
        acc_lp_state = f.channels;
        last_acc_corr_angular_rate = i.last_acc_corr_angular_rate;
      }

  -- close to a half turn: one about the first axis, where the source has (0, 1, 0, 1)
  unfoldable pub acc_correction : Vector → Quaternion
  acc_correction v =
      let q_w = root w ((v.2 ⊕ one w) ⊘ two w) in
      cond (lt (millionth w) q_w)
      (quaternion q_w (half w ⊗ v.1 ⊘ q_w) (neg (half w) ⊗ v.0 ⊘ q_w) (zero w))
      (quaternion (zero w) (one w) (zero w) (zero w))

  unfoldable pub inclined : Inclination → Float → Float → Coeffs → Vector → TriedInclination
  inclined i tau ts k acc =
      let lp = acc_lowpassed i tau ts k acc in
      let acc_earth = normalize w (rotate w lp.acc_quat lp.last_acc_lp) in
      let next : Inclination = record {
        gyr_quat = lp.gyr_quat;
        acc_quat = quaternions.normalize w (times w (acc_correction acc_earth) lp.acc_quat);
        last_acc_lp = lp.last_acc_lp;
        acc_lp_state = lp.acc_lp_state;
        last_acc_corr_angular_rate = acos w acc_earth.2 ⊘ ts;
      } in
      record { finite = finite_inclination next; inclination = next; acc_earth = acc_earth }
