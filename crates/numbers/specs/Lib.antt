-- The crate's definitions: what each operation means on words, over the format. Assumes nothing.
pub mod Arithmetic
