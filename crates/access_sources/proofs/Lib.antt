-- Laws of the crate's proofs.
pub mod Pairs
pub mod Moving
pub mod Trees
