-- What the inertial half answers when asked, over the format w.
use Rattle.std.specs.Prelude.{Float}
use Rattle.std.specs.Float.{Format}
use Rattle.floats.specs.Notation.{rounded, pi}
use Rattle.floats.specs.Decimals.{hundred, half_turn}
use Rattle.floats.specs.Definitions.{magnitude, larger, smaller}
use Rattle.numbers.specs.Root.{root}
use Rattle.algebra.specs.declared.quaternion.Quaternion.{Quaternion}
use Rattle.tilt.specs.Asked as tilt
use Rattle.tilt.specs.declared.types.Deviations.{Deviations}
use Rattle.inertial.specs.declared.types.Inertial.{Inertial}
use Rattle.inertial.specs.declared.asked.BiasEstimate.{BiasEstimate}

abbrev pub quat_3d : Inertial → Quaternion
quat_3d f = f.state.inclination.gyr_quat

module _ (w : Format) where
  open rounded w use {◌⊕◌, ◌⊗◌, ◌⊘◌}

  abbrev pub quat_6d : Inertial → Quaternion
  quat_6d f = tilt.quat_6d w f.state.inclination

  unfoldable pub row_sum : Float → Float → Float → Float
  row_sum x y z = magnitude x ⊕ magnitude y ⊕ magnitude z

  unfoldable pub bias_estimate : Inertial → BiasEstimate
  bias_estimate f =
      let m = f.state.bias.bias_p in
      let sum1 = row_sum m.m00 m.m01 m.m02 in
      let sum2 = row_sum m.m10 m.m11 m.m12 in
      let sum3 = row_sum m.m20 m.m21 m.m22 in
      let p = smaller (larger (larger sum1 sum2) sum3) f.coeffs.bias.bias_p0 in
      record { bias = f.state.bias.bias; sigma = root w p ⊗ (pi w ⊘ hundred w ⊘ half_turn w) }

  abbrev pub relative_rest_deviations : Inertial → Deviations
  relative_rest_deviations f = tilt.relative_rest_deviations w f.state.rest f.params.rest
