pub mod Texts
pub mod Modes
pub mod Padding
pub mod Output
pub mod Steps
pub mod Holds
