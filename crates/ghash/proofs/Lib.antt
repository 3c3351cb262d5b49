-- Lemmas of the crate.
pub mod Algebra
pub mod BlockLemmas
pub mod ChainLemmas
pub mod Gather
pub mod Linear
pub mod RowLemmas
pub mod Steps
pub mod TableLemmas
pub mod Weave
