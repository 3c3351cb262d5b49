pub mod Rules
pub mod Plans
pub mod Table
