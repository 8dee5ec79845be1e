-- The crate's laws that belong to no one function. Assumes nothing.
pub mod Applying
