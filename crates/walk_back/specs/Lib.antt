-- What the crate's contracts mean.
pub mod Counted
pub mod Given
pub mod Refusal
