pub mod Floats
pub mod Returnable
pub mod Reading
pub mod Calls
