-- The class of a watched word.
pub mod Class
