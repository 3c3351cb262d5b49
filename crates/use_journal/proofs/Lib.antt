pub mod Marked
pub mod Readings
pub mod Unique
