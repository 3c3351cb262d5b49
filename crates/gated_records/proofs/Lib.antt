pub mod Outside
pub mod PlaceLemmas
pub mod Staging
