-- The gain differences, and the gain sum by them.
pub mod Differing
pub mod GainSums
