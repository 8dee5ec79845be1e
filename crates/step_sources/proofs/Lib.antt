-- Laws of the crate's proofs.
pub mod Words
pub mod Writes
