pub mod Vectors
pub mod Cells
