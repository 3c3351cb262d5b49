-- The laws of a block cipher, proved for the definitions.
pub mod XorSums
pub mod FieldLaws
pub mod StateLaws
pub mod ScheduleLaws
pub mod CipherLaws
pub mod AesLaws
