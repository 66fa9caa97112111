pub mod Faults
pub mod Held
pub mod Questions
pub mod Effects
pub mod Runs
pub mod Laws
