pub mod Outputs
pub mod OneBlock
