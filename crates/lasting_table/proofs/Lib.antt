pub mod Ends
pub mod Lengths
pub mod Listing
pub mod Lockstep
pub mod Rising
pub mod Storing
