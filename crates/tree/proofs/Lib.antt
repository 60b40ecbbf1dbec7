-- The facts of the tree, by subject. Each is proved once over M and, where it is no fact of the table in use, over the prototype.
pub mod Table
pub mod Back
pub mod AfterOneSample
pub mod Lines
pub mod Delays
pub mod Aligned
pub mod Recursive
pub mod EqualGains
pub mod Weighted
pub mod Allowance
pub mod AlignedSum
pub mod Distance
pub mod EveryNumber
pub mod Farthest
pub mod NeverLimited
pub mod NoCrack
