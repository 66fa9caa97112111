pub mod Steps
pub mod Onward
