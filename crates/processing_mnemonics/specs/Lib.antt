-- Data-processing words as an assembler writes them.
pub mod Data
