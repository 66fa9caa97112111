pub mod Memories
pub mod Copies
pub mod Transcriptions
pub mod Steps
