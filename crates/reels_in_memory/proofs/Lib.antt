pub mod Kept
pub mod Rows
pub mod Transcribing
pub mod Blank
