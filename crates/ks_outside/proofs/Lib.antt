-- Lemmas of the crate.
pub mod Carried
pub mod DrawLaws
pub mod Goings
pub mod Joins
pub mod Shown
pub mod WordLemmas
