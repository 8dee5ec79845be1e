-- Which place a word hangs on.
pub mod Hangs
