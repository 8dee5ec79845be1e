-- Laws of a text that is cut at its room.

pub mod Clipping
pub mod Fields
pub mod Chain
