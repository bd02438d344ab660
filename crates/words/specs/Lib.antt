pub mod Decimals
pub mod Words
