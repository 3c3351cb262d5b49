pub mod Wrapping
pub mod Lengths
