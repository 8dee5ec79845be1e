-- The crate's laws that belong to no one function. Assumes nothing.
pub mod Negation
pub mod Fitting
pub mod Values
pub mod Composing
pub mod Nearest
pub mod Control
