pub mod Traces
pub mod ReplyReads
pub mod TraceReads
pub mod ToldWhole
pub mod Told
