pub mod Names
pub mod Lines
pub mod Requests
pub mod Readers
pub mod Plays
pub mod Printed
pub mod ReadLines
