pub mod AfterData
pub mod Answers
pub mod Chunks
pub mod OneAnswer
pub mod Steps
pub mod Turns
pub mod Unread
