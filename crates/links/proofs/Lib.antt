-- Laws of the crate's proofs.
pub mod Laid
pub mod Walking
