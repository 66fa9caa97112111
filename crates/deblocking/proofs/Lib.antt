pub mod Edges
pub mod Locality
pub mod Squared
