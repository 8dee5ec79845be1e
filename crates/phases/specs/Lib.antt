-- The shares, the rounds after them, and the phases that give whole rounds at once.
pub mod Share
pub mod Round
pub mod Phase
