-- Correct rounding: what it is, and what is correctly rounded.
pub mod Rounded
pub mod Operations
pub mod Roots
