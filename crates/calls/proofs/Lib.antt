-- Laws of the crate's proofs.
mod Reported
mod Called
