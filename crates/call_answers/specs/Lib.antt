pub mod Found
pub mod KeySources
pub mod Creating
pub mod Beginning
pub mod Upgrading
