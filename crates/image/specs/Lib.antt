pub mod Marks
pub mod Pack
pub mod Unpack
pub mod Put
pub mod Image
pub mod Inverse
