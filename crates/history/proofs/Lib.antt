-- The whole history and the demands, by subject.
pub mod Rings
pub mod Regions
pub mod Holds
pub mod From
pub mod Samples
pub mod Weighed
pub mod Accepted
pub mod OneChannel
pub mod OneSide
pub mod Calls
pub mod WholeHistory
pub mod Sides
pub mod Demands
pub mod SideDemands
pub mod ThrownOut
pub mod RefusedBetween
