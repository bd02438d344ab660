-- The gain of a heading correction and the heading after it, over the format w.
use Rattle.std.specs.Prelude.{Bool, cond, ◌&&◌, Float}
use Rattle.std.specs.Float.{Format}
use Rattle.std.specs.Float.Ieee.{neg, lt, le, ne}
use Rattle.std.specs.Float.Ieee.Scale.{finite}
use Rattle.floats.specs.Notation.{rounded, zero, one, two, pi}
use Rattle.floats.specs.Definitions.{larger}
use Rattle.magnetic.specs.Told.{with_reject_t}
use Rattle.magnetic.specs.declared.types.Field.{Field}
use Rattle.magnetic.specs.declared.types.Heading.{Heading}
use Rattle.magnetic.specs.declared.types.MagneticParams.{MagneticParams}
use Rattle.magnetic.specs.declared.types.MagneticCoefficients.{MagneticCoefficients}
use Rattle.magnetic.specs.declared.heading.Rejection.{Rejection}

unfoldable pub finite_heading : Heading → Bool
finite_heading h = finite h.delta && finite h.k_mag_init && finite h.last_mag_dis_angle && finite h.last_mag_corr_angular_rate

module _ (w : Format) where
  open rounded w use {◌⊕◌, ◌⊖◌, ◌⊗◌, ◌⊘◌}

  unfoldable pub wrapped : Float → Float
  wrapped x = cond (lt (pi w) x) (x ⊖ two w ⊗ pi w) (cond (lt x (neg (pi w))) (x ⊕ two w ⊗ pi w) x)

  -- magnetic disturbance rejection
  unfoldable pub rejected : Field → MagneticParams → MagneticCoefficients → Rejection
  rejected f p c =
      let t = f.mag_reject_t in
      cond f.mag_dist_detected
      (cond (le t p.mag_max_rejection_time)
      (record { k = zero w; field = with_reject_t f (t ⊕ c.mag_ts) })
      (record { k = c.k_mag ⊘ p.mag_rejection_factor; field = f }))
      (record { k = c.k_mag; field = with_reject_t f (larger (zero w) (t ⊖ p.mag_rejection_factor ⊗ c.mag_ts)) })

  -- the gain is at least 1/N in the first samples, also while it is rejected
  unfoldable pub lifted : Float → Float → Float
  lifted k init = cond (ne init (zero w) && lt k init) init k

  unfoldable pub next_init : Float → Float → Float → Float
  next_init init tau_mag mag_ts =
      let next = init ⊘ (init ⊕ one w) in
      cond (ne init (zero w)) (cond (lt (next ⊗ tau_mag) mag_ts) (zero w) next) init

  unfoldable pub corrected : Heading → Float → Float → Float → Float → Heading
  corrected h angle k tau_mag mag_ts =
      let dis = wrapped (angle ⊖ h.delta) in
      let used = lifted k h.k_mag_init in
      record {
        delta = wrapped (h.delta ⊕ used ⊗ dis);
        k_mag_init = next_init h.k_mag_init tau_mag mag_ts;
        last_mag_dis_angle = dis;
        last_mag_corr_angular_rate = used ⊗ dis ⊘ mag_ts;
      }
