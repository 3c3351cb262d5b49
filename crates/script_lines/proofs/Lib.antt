pub mod Depths
pub mod ReadBack
pub mod ParamsFound
pub mod EventsFound
