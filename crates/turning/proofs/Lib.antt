pub mod Places
pub mod Fetching
pub mod Storing
pub mod Standing
