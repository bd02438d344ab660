-- The types of the code, by their names.
pub use Rattle.algebra.specs.declared.matrix.NoInverse.{NoInverse}
pub use Rattle.algebra.specs.declared.matrix.Matrix.{Matrix}
