-- The laws of the replay.
mod Running
pub mod Recording
