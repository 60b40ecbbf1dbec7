pub mod ArgumentText
pub mod ArgumentGain
pub mod NextArgument
pub mod TakenInTurn
