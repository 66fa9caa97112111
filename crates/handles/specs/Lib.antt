pub mod Numbers
pub mod Handles
pub mod Begun
