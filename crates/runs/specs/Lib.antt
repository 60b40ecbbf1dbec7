pub mod Program
pub mod Started
pub mod Stopped
