pub mod First
pub mod Maps
pub mod Names
pub mod Rows
pub mod Table
