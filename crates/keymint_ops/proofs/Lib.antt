mod Fitting
pub mod BlobSizes
