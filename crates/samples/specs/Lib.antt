pub mod Vectors
pub mod Prediction
pub mod Clipping
pub mod Deblocking
pub mod Ages
pub mod Figures
