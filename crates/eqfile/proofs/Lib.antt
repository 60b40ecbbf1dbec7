pub mod StartOrder
pub mod Turns
pub mod WholeSamples
pub mod AllArguments
pub mod OneAnswer
