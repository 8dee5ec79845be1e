-- The crate's definitions: what its stages give. Assumes nothing.
pub mod Divided
