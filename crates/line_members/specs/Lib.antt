pub mod Reads
pub mod Members
pub mod Values
pub mod Objects
pub mod Whole
pub mod LineFeeds
