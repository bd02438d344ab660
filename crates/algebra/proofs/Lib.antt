pub mod Inverses
pub mod Normalized
