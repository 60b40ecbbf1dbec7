pub mod Start
pub mod Turn
pub mod Front
pub mod Data
