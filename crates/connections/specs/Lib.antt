pub mod Talks
pub mod Ends
pub mod Steps
pub mod Pieces
