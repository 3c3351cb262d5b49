pub mod Bodies
pub mod BothWays
pub mod Carryings
pub mod KeyLists
pub mod Leaving
pub mod Lists
pub mod Restoring
pub mod SnapshotBytes
