-- A line in the memory.
pub mod Line
pub mod Helpers
