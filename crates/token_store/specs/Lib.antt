pub mod Fitting
pub mod Table
pub mod Room
