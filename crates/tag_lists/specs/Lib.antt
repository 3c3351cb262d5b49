pub mod Order
pub mod Spelling
pub mod Reading
pub mod Lookups
pub mod Versions
