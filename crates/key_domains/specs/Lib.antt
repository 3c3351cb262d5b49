pub mod Domains
pub mod Forms
pub mod Bits
pub mod CallerBits
pub mod View
pub mod Access
