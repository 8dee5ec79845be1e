-- The meaning of a word of a run, and its class.
pub mod Word
pub mod Class
