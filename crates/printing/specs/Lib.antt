-- What the programs of readings print, and of which part of a list.
pub mod Part
pub mod Told
pub mod Total
