-- What the crate's contracts mean.
pub mod Pairs
pub mod Walked
