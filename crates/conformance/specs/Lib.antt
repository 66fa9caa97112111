pub mod Draws
pub mod Errors
