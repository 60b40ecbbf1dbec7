-- Samples through the lines: by the sample, and by rows.
pub mod Cascade
pub mod Rows
pub mod Helpers
