pub mod Contents
pub mod Rebound
