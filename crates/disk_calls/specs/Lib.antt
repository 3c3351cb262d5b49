pub mod Ahead
pub mod Still
pub mod WholeReads
