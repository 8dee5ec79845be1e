-- Loads, stores and pairs as an assembler writes them.
pub mod LoadStore
