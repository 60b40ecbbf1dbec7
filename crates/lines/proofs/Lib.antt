-- The laws that the functions' proofs cite, by subject.
pub mod Interchange
pub mod Turns
pub mod Columns
pub mod Loops
pub mod Parts
pub mod Regions
pub mod Cascading
pub mod Lengths
