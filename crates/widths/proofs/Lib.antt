-- The crate's laws that belong to no one function. Assumes nothing.
pub mod Widen
pub mod Narrow
pub mod Laws
pub mod Values
