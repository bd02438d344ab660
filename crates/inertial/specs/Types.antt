-- The types of the code, by their names.
pub use Rattle.inertial.specs.declared.kalman.Estimate.{Estimate}
pub use Rattle.inertial.specs.declared.kalman.Measurement.{Measurement}
pub use Rattle.inertial.specs.declared.kalman.Smooth.{Smooth}
pub use Rattle.inertial.specs.declared.types.Bias.{Bias}
pub use Rattle.inertial.specs.declared.types.BiasParams.{BiasParams}
pub use Rattle.inertial.specs.declared.types.Inertial.{Inertial}
pub use Rattle.inertial.specs.declared.types.InertialCoefficients.{InertialCoefficients}
pub use Rattle.inertial.specs.declared.types.InertialParams.{InertialParams}
pub use Rattle.inertial.specs.declared.types.InertialState.{InertialState}
