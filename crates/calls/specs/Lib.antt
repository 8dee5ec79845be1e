-- What the exported call leaves and promises.
pub mod Outcome
pub mod Promise
