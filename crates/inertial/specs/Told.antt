-- What the inertial half is told to give, and how one of its groups is put in the place of another: the one place for each record.
pub use Rattle.limits.specs.Answers.{told_of}
use Rattle.std.specs.Prelude.{Bool, cond}
use Rattle.limits.specs.Answers.{Told, told}
use Rattle.tilt.specs.declared.types.Inclination.{Inclination}
use Rattle.inertial.specs.declared.types.Bias.{Bias}
use Rattle.tilt.specs.declared.types.Rest.{Rest}
use Rattle.inertial.specs.declared.types.InertialState.{InertialState}
use Rattle.inertial.specs.declared.types.Inertial.{Inertial}

abbrev pub state_of : Inclination → Bias → Rest → InertialState
state_of i b r = record { inclination = i; bias = b; rest = r }

abbrev pub with_state : Inertial → InertialState → Inertial
with_state f s = record { params = f.params; coeffs = f.coeffs; state = s }

-- what is to be stored, where every number of it is finite; else 6 and the half as it was
abbrev pub if_finite : Bool → Inertial → Inertial → Told Inertial
if_finite finite next f = cond finite (told 0 next) (told 6 f)
