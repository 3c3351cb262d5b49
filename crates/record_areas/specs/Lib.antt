pub mod BodyLengths
pub mod Frames
pub mod Holding
pub mod Readings
pub mod Windows
