-- The definitions of the crate.
pub mod Field
pub mod Hash
pub mod Lanes
pub mod Tables
pub mod Chains
