pub mod Calls
pub mod Lines
pub mod Summary
pub mod Summing
