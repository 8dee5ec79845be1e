-- Laws of the crate's proofs.
pub mod Bytes
pub mod Ones
