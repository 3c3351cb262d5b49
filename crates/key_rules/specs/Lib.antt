pub mod Rules
pub mod Table
pub mod Asked
pub mod KeptLists
pub mod Creation
pub mod Gives
