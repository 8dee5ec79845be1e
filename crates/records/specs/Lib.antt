-- The bytes of a recorded cycle.
pub mod Number
pub mod Recorded
