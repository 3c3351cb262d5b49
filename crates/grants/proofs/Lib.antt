pub mod Finding
pub mod Ordered
pub mod Entries
pub mod Indexed
pub mod Ranges
pub mod Whole
pub mod Granting
pub mod Nexts
