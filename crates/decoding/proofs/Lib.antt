-- Laws of the crate's proofs.

pub mod Named
pub mod Past
pub mod Entries
