pub mod Places
pub mod Fits
pub mod Deliveries
pub mod Holding
pub mod Gaps
pub mod Filled
