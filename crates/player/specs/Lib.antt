pub mod Plays
pub mod PlayedIn
