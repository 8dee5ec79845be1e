-- Which record is turned away.
pub mod Refusal
