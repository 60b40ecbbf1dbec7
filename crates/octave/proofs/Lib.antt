-- The laws that the functions' proofs cite, by subject.
pub mod Ranges
pub mod Layouts
pub mod Memories
pub mod Inputs
pub mod Refusals
pub mod Blocking
