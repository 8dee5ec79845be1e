-- What the crate's contracts mean.
pub mod Address
pub mod Contiguous
