pub mod Lengths
pub mod Dropped
pub mod Walks
pub mod Keys
pub mod Ids
pub mod NewKeys
