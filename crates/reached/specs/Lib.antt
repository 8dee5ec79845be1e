-- A watched run word by word.
pub mod Point
