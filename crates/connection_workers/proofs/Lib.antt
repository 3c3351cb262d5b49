pub mod Intaking
pub mod Rounds
pub mod Turning
pub mod Visiting
