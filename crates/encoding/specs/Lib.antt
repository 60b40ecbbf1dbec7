-- What a C caller is returned of an answer.
pub mod Encode
pub mod Answers
pub mod Parts
