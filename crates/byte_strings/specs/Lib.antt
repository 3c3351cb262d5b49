pub mod Codecs
pub mod Fields
pub mod Numbers
pub mod Readers
