-- Laws of the crate's proofs.

mod Replies
