-- The laws of the feeds and of the call, by subject.
pub mod Feeds
pub mod Keeping
pub mod Refusals
