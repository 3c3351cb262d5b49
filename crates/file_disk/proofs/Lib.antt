-- Lemmas of the crate.
pub mod Pieces
