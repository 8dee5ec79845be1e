-- The laws of the grants.
pub mod Loops
pub mod Answers
