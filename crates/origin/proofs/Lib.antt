-- Laws of the crate's proofs.
mod Promised
