-- The laws of signed whole numbers, by subject, and below them (from `Rounded` on) what the code asks.
pub mod Signed
pub mod Ring
pub mod Order
pub mod Magnitude
pub mod Sums
pub mod Nearest
pub mod Limit
pub mod Rounded
pub mod Product
