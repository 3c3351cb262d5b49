-- Lemmas of the crate.
pub mod Filling
pub mod Pairs
pub mod PlaceLemmas
pub mod Underway
