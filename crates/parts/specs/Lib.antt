-- What a C caller is returned of the header reader, and of a sample as a float.
pub mod Places
pub mod Floated
pub mod Found
