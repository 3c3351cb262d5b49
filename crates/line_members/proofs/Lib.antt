pub mod NoFloats
pub mod Texts
pub mod PairLemmas
pub mod Depths
pub mod ReadBack
pub mod Finds
