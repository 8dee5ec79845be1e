-- The crate's laws that belong to no one function. Assumes nothing.
pub mod Divide
pub mod Numbers
pub mod Special
