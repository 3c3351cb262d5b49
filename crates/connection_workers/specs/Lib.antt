pub mod Arrivals
pub mod Intakes
pub mod Workers
