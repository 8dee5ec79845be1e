-- Laws of the crate's proofs, over the precision.

pub mod Steps
