pub mod DigitCount
pub mod Members
pub mod Going
