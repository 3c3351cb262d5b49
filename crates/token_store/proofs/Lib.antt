pub mod Triples
pub mod Lists
