-- The definitions of the crate: what its values stand for. What they give are the definitions of `cipher_ops`.
pub mod Links
pub mod Chains
pub mod Streams
pub mod Hashes
pub mod Sizes
pub mod Modes
pub mod Carries
