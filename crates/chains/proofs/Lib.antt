-- The laws of chains, and that there are chains.
pub mod Marks
pub mod Ways
pub mod Runs
pub mod Lengths
pub mod Laws
