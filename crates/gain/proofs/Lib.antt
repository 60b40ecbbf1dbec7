pub mod Every
pub mod Halves
pub mod HalfDecibels
pub mod Table
pub mod Product
pub mod Factors
pub mod Answers
