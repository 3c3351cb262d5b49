pub mod Rewriting
pub mod Unsynced
