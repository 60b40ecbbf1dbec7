-- The memory, and the calls.
pub mod Counts
pub mod Memory
pub mod Input
pub mod Block
pub mod Answer
pub mod Helpers
