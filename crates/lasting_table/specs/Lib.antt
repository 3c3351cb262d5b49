pub mod Parts
pub mod Replays
pub mod TableView
