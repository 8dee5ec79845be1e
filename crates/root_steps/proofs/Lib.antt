-- Laws of the crate's proofs.
pub mod Steps
