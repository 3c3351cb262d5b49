-- The definitions of the crate. Blocks, Counter and Gcm are the standard's; Parts and Holds say what the states stand
-- for.
pub mod Blocks
pub mod Bytewise
pub mod Counter
pub mod Gcm
pub mod HeldBytes
pub mod Parts
pub mod Holds
