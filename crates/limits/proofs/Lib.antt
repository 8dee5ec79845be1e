-- The laws of the limits and of the window marks.
pub mod Limits
