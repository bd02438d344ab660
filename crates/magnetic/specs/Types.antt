-- The types of the code, by their names.
pub use Rattle.magnetic.specs.declared.heading.Rejection.{Rejection}
pub use Rattle.magnetic.specs.declared.types.Field.{Field}
pub use Rattle.magnetic.specs.declared.types.Heading.{Heading}
pub use Rattle.magnetic.specs.declared.types.Magnetic.{Magnetic}
pub use Rattle.magnetic.specs.declared.types.MagneticCoefficients.{MagneticCoefficients}
pub use Rattle.magnetic.specs.declared.types.MagneticParams.{MagneticParams}
pub use Rattle.magnetic.specs.declared.types.MagneticState.{MagneticState}
pub use Rattle.magnetic.specs.declared.types.NormDip.{NormDip}
pub use Rattle.magnetic.specs.declared.types.Seen.{Seen}
