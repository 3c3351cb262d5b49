pub mod Holding
pub mod Journal
