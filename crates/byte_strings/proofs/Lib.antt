mod Bits
pub mod Fields
pub mod NumberLemmas
pub mod Rows
