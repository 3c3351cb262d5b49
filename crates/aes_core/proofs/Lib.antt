mod Vectors
mod TableLemmas
pub mod MixLemmas
mod ScheduleLemmas
mod RoundLemmas
mod KeyLemmas
mod TowerLemmas
