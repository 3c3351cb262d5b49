pub mod Tags
pub mod Gathering
pub mod Canonical
pub mod Edits
pub mod Fields
pub mod Laws
pub mod Lookups
pub mod Members
pub mod Sizes
pub mod ReadSizes
mod Numbers
mod VersionSizes
