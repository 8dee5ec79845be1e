-- The steps of a watched run, and the chains through them.
pub mod Steps
pub mod Chain
pub mod Origin
