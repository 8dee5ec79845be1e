-- The crate's laws that belong to no one function. Assumes nothing.
pub mod Whole
pub mod Laws
pub mod Sight
pub mod Values
