pub mod FromABlock
pub mod EndOfBlocks
pub mod KeyBytes
pub mod Hashing
pub mod GcmLemmas
pub mod ModeLemmas
pub mod CarryLemmas
