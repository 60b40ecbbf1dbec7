-- The definitions of the crate: what a reader of its contracts must believe.
pub mod Nearest
pub mod Limit
pub mod Sum
