-- Lemmas of the crate.
pub mod Cutting
pub mod Feeding
pub mod KeyStream
pub mod Plain
pub mod Blockwise
pub mod Streaming
pub mod Tagging
pub mod Opening
pub mod Standing
mod Undoing
