pub mod Book
pub mod Limits
pub mod Tallies
