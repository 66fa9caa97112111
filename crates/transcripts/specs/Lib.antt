pub mod Answers
pub mod Sums
pub mod Macroblocks
pub mod Tallies
pub mod Transcribed
