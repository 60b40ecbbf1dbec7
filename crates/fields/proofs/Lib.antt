pub mod ByTest
pub mod FourBytes
pub mod Naming
pub mod Numbers
pub mod Rows
