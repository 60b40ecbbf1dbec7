-- The feeds over runs of calls, by subject.
pub mod Crossings
pub mod Runs
pub mod RefusedBetween
pub mod Demands
pub mod Parts
pub mod AddingUp
pub mod Independent
pub mod Served
pub mod ThrownOut
