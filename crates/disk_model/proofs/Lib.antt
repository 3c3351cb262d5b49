-- Lemmas of the crate.
pub mod Elapsing
pub mod ListedImages
pub mod Overlays
pub mod Reaching
pub mod Replays
pub mod TextLemmas
pub mod Writing
