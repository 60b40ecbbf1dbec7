pub mod Encoding
pub mod Decoded
