pub mod Alike
pub mod Deciding
pub mod Headers
pub mod Walks
