-- Laws of the crate's proofs, demand 3, and that more known never shows less.

mod Replies
mod Places
pub mod Demanded
pub mod More
pub mod Promised
