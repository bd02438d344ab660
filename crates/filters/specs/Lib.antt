pub mod Types
pub mod Coefficients
pub mod Channels
pub mod Banks
pub mod Bounds
pub mod InStep
pub mod Values
pub mod Counts
