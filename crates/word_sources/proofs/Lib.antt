-- Laws of the crate's proofs.
pub mod Classed
pub mod Counted
