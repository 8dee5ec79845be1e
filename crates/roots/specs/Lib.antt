-- The crate's definitions: the square root, over the format. Assumes nothing.
pub mod Root
