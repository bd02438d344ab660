pub mod Types
pub mod Vectors
pub mod Quaternions
pub mod Matrices
pub mod Inverses
pub mod Values
