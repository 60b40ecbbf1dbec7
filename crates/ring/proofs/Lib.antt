-- The laws of a ring and of its low-pass, by subject.
pub mod Adding
pub mod Pairs
pub mod Taps
pub mod Places
