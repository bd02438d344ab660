-- How far a magnetometer step can take the heading, over the format w: the gain that it uses, and what it moves the heading by.
use Rattle.std.specs.Prelude.{◌≡◌, cond, T, Float}
use Rattle.std.specs.Float.{Format}
use Rattle.std.specs.Float.Ieee.{neg, eq}
use Rattle.floats.specs.Notation.{rounded, zero, pi}
use Rattle.floats.specs.Order.{Within}
use Rattle.algebra.specs.Quaternions.{rotate}
use Rattle.algebra.specs.declared.vector.Vector.{Vector}
use Rattle.magnetic.specs.Fields.{field_step}
use Rattle.magnetic.specs.Headings.{wrapped, rejected, lifted}
use Rattle.magnetic.specs.declared.types.Heading.{Heading}
use Rattle.magnetic.specs.declared.types.Magnetic.{Magnetic}
use Rattle.magnetic.specs.declared.types.Seen.{Seen}

module _ (w : Format) where
  open rounded w use {◌⊕◌, ◌⊖◌, ◌⊗◌, ◌⊘◌}

  abbrev pub Angle : Float → Type 0
  Angle x = Within x (neg (pi w)) (pi w)

  -- what is left of `k_mag` while disturbances are rejected
  abbrev pub gain_rejecting : Magnetic → Seen → Vector → Float
  gain_rejecting f seen mag =
      let mag_earth = rotate w seen.quat_6d mag in
      (rejected w (field_step w f.state.field f.params f.coeffs mag_earth seen.rest_last_gyr_lp) f.params f.coeffs).k

  -- the gain that a step on this filter with this sample multiplies the disagreement by
  abbrev pub gain_used : Magnetic → Seen → Vector → Float
  gain_used f seen mag = lifted w (cond seen.mag_dist_rejection_enabled (gain_rejecting f seen mag) f.coeffs.k_mag) f.state.heading.k_mag_init

  -- g is what a step with the gain k left of the heading h
  pub record Moved (h : Heading) (k : Float) (g : Heading) : Type 0 where
    -- before it is wrapped, the heading goes by the gain times the disagreement
    pub goes : g.delta ≡ wrapped w (h.delta ⊕ k ⊗ g.last_mag_dis_angle)
    -- which is at most the gain times PI
    pub at_most : Within (h.delta ⊕ k ⊗ g.last_mag_dis_angle) (h.delta ⊖ k ⊗ pi w) (h.delta ⊕ k ⊗ pi w)
    pub stays : T (eq k (zero w)) → T (eq g.delta h.delta)
