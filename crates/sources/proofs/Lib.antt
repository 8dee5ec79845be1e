-- Laws of the crate's proofs.
pub mod Picking
pub mod Rules
