pub mod Exact
pub mod Scaled
