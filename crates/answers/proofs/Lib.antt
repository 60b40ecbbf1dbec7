pub mod Branches
pub mod Firsts
pub mod Laws
pub mod Ranges
