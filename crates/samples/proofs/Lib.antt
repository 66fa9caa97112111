pub mod Components
pub mod Corrections
pub mod Levels
pub mod Fill
