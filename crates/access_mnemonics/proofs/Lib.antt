-- Laws of the crate's proofs.

mod Count
