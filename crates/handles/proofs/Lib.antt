pub mod Values
pub mod HandedOn
