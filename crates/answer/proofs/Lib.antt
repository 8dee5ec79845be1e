-- The five words one by one, and that the values of a run fit in them.
pub mod Answer
pub mod Bounds
