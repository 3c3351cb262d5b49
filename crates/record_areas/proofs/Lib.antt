pub mod FirstBytes
pub mod Heads
pub mod Marks
pub mod Seeing
pub mod Sides
pub mod Taken
pub mod Unique
pub mod Walks
