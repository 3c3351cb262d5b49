pub mod Asked
pub mod Processes
