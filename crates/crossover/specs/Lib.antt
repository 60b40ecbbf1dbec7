-- The feeds, and the call.
pub mod Feeds
pub mod Cross
pub mod Answer
pub mod Helpers
