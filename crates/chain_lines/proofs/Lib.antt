-- Laws of names and of a chain's pieces.

pub mod Spaces
pub mod Pieces
