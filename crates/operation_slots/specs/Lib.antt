pub mod Table
pub mod Counted
pub mod Sorted
pub mod Boards
