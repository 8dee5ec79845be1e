-- The crate's theorems. Assumes nothing.
pub mod Fractions
pub mod Values
pub mod Native
pub mod Bound
