pub mod Views
pub mod Rule
pub mod Steps
pub mod Fronts
pub mod Endings
pub mod Passes
pub mod Resting
