pub mod Creation
pub mod Opening
pub mod Begin
pub mod Wrapped
