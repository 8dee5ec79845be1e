-- The claims' proofs.
pub mod Values
pub mod Decoding
pub mod Window
pub mod Correct
