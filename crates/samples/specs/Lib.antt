-- Samples, their channels and their bytes: rules 1.10, 8.9 and 9.
pub mod Channels
pub mod Format
pub mod Sample
pub mod Samples
