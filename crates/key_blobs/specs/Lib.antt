pub mod Text
pub mod Blobs
