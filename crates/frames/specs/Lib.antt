-- Blocks of frames.
pub mod Frames
pub mod Helpers
