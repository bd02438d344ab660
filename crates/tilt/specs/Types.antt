-- The types of the code, by their names.
pub use Rattle.tilt.specs.declared.types.Inclination.{Inclination}
pub use Rattle.tilt.specs.declared.types.Rest.{Rest}
pub use Rattle.tilt.specs.declared.types.RestParams.{RestParams}
