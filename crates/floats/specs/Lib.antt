-- Floats as samples, and samples as floats: rules 9.7 to 9.12.
pub mod Value
pub mod Exponent
pub mod Block
