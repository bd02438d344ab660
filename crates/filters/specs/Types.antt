-- The types of the code, by their names.
pub use Rattle.filters.specs.declared.channel.Channel.{Channel}
pub use Rattle.filters.specs.declared.channel.Phase.{Phase}
pub use Rattle.filters.specs.declared.coeffs.Coeffs.{Coeffs}
