pub mod Turns
pub mod Replays
