pub mod Writing
pub mod Counts
pub mod RoundTrips
pub mod Sizes
