pub mod Answers
pub mod Table
pub mod BySize
