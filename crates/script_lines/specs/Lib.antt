pub mod Params
pub mod Acts
pub mod Lines
pub mod Replies
pub mod EventLines
pub mod ToldWhole
