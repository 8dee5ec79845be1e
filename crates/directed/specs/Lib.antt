-- The crate's definitions: the arithmetic of one step by a rounding mode, and what it raises. Assumes nothing.
pub mod Directed
pub mod Exceptions
