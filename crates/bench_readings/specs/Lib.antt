-- The bench readings marked P (rule 14.2).
pub mod Reading
pub mod Table
