-- What the exported functions promise.
pub mod Outcome
pub mod WatchOutcome
pub mod Buffers
pub mod More
pub mod WatchPromise
pub mod Grant
pub mod GrantPromise
pub mod Sheet
pub mod Replay
