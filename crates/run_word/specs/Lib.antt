-- What one word of a run promises.
pub mod Stop
