pub mod Turns
pub mod Gathered
pub mod Blocks
pub mod Deliveries
pub mod Wholes
pub mod Onward
