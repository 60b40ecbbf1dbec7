pub mod Proved
pub mod Unity
