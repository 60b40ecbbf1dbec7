pub mod Beginning
pub mod Handed
