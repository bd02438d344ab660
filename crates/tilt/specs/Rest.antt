-- What both steps do to the rest group, over the format w.
use Rattle.std.specs.Prelude.{false, Float}
use Rattle.std.specs.Float.{Format}
use Rattle.floats.specs.Notation.{rounded, zero}
use Rattle.algebra.specs.declared.vector.Vector.{Vector}
use Rattle.tilt.specs.Scalars.{square}
use Rattle.tilt.specs.declared.types.Rest.{Rest}

module _ (w : Format) where
  open rounded w use {◌⊕◌, ◌⊖◌}

  unfoldable pub squared_deviation : Vector → Vector → Float
  squared_deviation x lp = square w (x.0 ⊖ lp.0) ⊕ square w (x.1 ⊖ lp.1) ⊕ square w (x.2 ⊖ lp.2)

  unfoldable pub broken : Rest → Rest
  broken r =
      record {
        rest_detected = false;
        rest_last_squared_deviations = r.rest_last_squared_deviations;
        rest_t = zero w;
        rest_last_gyr_lp = r.rest_last_gyr_lp;
        rest_gyr_lp_state = r.rest_gyr_lp_state;
        rest_last_acc_lp = r.rest_last_acc_lp;
        rest_acc_lp_state = r.rest_acc_lp_state;
      }
