-- Laws of the crate's proofs.
pub mod Refusals
mod Walking
