pub mod Formats
pub mod Segments
pub mod Pictures
