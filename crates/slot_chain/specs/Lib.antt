pub mod Ordered
pub mod Linked
pub mod Table
