pub mod Adding
pub mod Compacting
pub mod Frames
pub mod Stands
pub mod Store
