-- Laws of the crate's proofs.
mod Rules
