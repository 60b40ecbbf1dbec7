pub mod Argument
pub mod Arguments
pub mod Given
