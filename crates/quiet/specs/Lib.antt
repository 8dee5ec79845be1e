-- The crate's definitions: words by which a native result shows what it raised. Assumes nothing.
pub mod Quiet
