-- What the crate's contracts mean.
pub mod Integer
