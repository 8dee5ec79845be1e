-- Register transfers as an assembler writes them.
pub mod Transfer
