pub mod Fitting
pub mod InBytes
pub mod InTiles
