pub mod Device
pub mod Files
pub mod Reads
pub mod Policy
