-- What the crate's contracts mean.
pub mod Transfer
pub mod Value
