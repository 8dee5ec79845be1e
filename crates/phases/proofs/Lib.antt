-- The laws of turns, of rounds and of the phases that give them.
pub mod Turns
pub mod Phases
pub mod Loops
