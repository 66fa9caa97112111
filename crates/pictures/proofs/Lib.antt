pub mod Rows
pub mod Painting
pub mod Addresses
pub mod Squares
