pub mod Names
pub mod Private
pub mod Walk
