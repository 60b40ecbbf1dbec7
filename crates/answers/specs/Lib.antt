-- What an answer is, how a call refuses, and the unit's numbers.
pub mod Answer
pub mod Checks
pub mod First
pub mod Judging
pub mod Range
pub mod Unit
