-- The layout of a machine in lent words.
pub mod State
