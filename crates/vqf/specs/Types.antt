-- The types of the code, by their names.
pub use Rattle.vqf.specs.declared.types.Params.{Params}
pub use Rattle.vqf.specs.declared.types.VQF.{VQF}
