-- The definitions of the crate. Output is what an operation gives; Sizes, Standing, Running and Jobs say what the values of
-- the crate stand for.
pub mod Output
pub mod Sizes
pub mod Standing
pub mod Running
pub mod Jobs
