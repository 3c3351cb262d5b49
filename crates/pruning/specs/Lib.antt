pub mod Victim
pub mod Facts
pub mod Choice
