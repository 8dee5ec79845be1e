-- What the replay of a record answers, and what it promises.
pub mod Replay
pub mod Promise
pub mod Recording
