pub mod Answers
pub mod Table
pub mod Limits
pub mod BySize
pub mod Words
