pub mod Squares
pub mod Sixths
pub mod Rectangles
pub mod Cells
pub mod Independence
