-- Correct rounding, proved.

pub mod Rounded
pub mod Operations
pub mod Roots
