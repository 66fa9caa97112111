pub mod Blocks
pub mod Macroblocks
pub mod Segments
pub mod Rebuilt
pub mod Laws
pub mod Rebuilders
