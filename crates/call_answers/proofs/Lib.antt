pub mod BeginKeys
pub mod FoundKeys
pub mod Listings
pub mod NewKeySources
pub mod UpgradeKeys
