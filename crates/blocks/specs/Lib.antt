pub mod Equalise
