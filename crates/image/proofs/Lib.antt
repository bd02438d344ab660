pub mod Put
pub mod Settings
pub mod Made
pub mod Inverse
