pub mod HalfTurn
pub mod Tested
pub mod CountsHeld
pub mod Turns
pub mod RestHistory
