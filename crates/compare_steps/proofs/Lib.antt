-- Laws of the crate's proofs.
pub mod Flags
pub mod Steps
