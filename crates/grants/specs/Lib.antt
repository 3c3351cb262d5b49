pub mod Rows
pub mod Maps
pub mod Table
pub mod Newest
