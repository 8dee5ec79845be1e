-- The marks of singles in turn, and where a transfer is contiguous among them.

pub mod InTurn
mod Lengths
