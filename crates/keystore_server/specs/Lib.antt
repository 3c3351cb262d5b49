pub mod Calling
pub mod Ends
pub mod Equality
pub mod Listening
pub mod Words
