-- The tree: rules 2 to 4.
pub mod Prototype
pub mod Table
pub mod HalfBand
pub mod Signal
pub mod Gains
pub mod Tree
pub mod Exact
pub mod Forms
