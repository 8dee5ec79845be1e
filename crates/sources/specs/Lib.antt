-- What the crate's contracts mean.
pub mod Source
pub mod Rule
