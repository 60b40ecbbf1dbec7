pub mod Table
pub mod Answer
pub mod Decibels
pub mod Factor
pub mod Promise
