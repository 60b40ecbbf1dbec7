-- The gain sum of aligned samples, and the outputs.
pub mod Weighing
pub mod Helpers
