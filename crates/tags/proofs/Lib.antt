mod Texts
mod Found
pub mod Rulings
