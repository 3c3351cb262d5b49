mod TextLemmas
mod BlobLemmas
mod Materials
pub mod BlobSizes
