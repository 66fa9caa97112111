pub mod Memories
pub mod Calls
