pub mod Summed
pub mod Padded
pub mod Options
pub mod Transcribing
