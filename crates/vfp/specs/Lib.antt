-- What the three calls promise.
pub mod Call
