pub mod Callers
pub mod Chains
pub mod Endings
pub mod Numbering
pub mod Pairing
pub mod Parting
pub mod Sending
pub mod Working
