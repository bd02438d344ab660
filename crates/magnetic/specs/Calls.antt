-- The calls of the magnetic half as data, "`update_mag`, `set_tau_mag` and `set_mag_ref`", and what each leaves and answers, over the format w.
-- A magnetometer step sees what `Seen` has of the inertial half.
use Rattle.std.specs.Prelude.{Float}
use Rattle.std.specs.Float.{Format}
use Rattle.algebra.specs.declared.vector.Vector.{Vector}
use Rattle.limits.specs.Answers.{Told}
use Rattle.magnetic.specs.Step as step
use Rattle.magnetic.specs.Setters as setters
use Rattle.magnetic.specs.declared.types.Magnetic.{Magnetic}
use Rattle.magnetic.specs.declared.types.Seen.{Seen}

pub data Call : Type 0 where
  update_mag : Vector → Call
  set_tau_mag : Float → Call
  set_mag_ref : Float → Float → Call

module _ (w : Format) where
  abbrev pub reply : Magnetic → Seen → Call → Told Magnetic
  reply f seen (update_mag v) = step.update_mag w f seen v
  reply f seen (set_tau_mag tau) = setters.set_tau_mag w f tau
  reply f seen (set_mag_ref norm dip) = setters.set_mag_ref w f norm dip
