-- The laws of a watched run word by word.
pub mod Reached
