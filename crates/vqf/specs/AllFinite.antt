-- Whether every number that the filter stores is finite: settings, intervals, coefficients and state.
use Rattle.std.specs.Prelude.{Bool, ◌&&◌}
use Rattle.vqf.specs.declared.types.VQF.{VQF}
use Rattle.inertial.specs.AllFinite as inertial
use Rattle.magnetic.specs.AllFinite as magnetic

unfoldable pub all_finite : VQF → Bool
all_finite f = inertial.all_finite f.inertial && magnetic.all_finite f.magnetic
