-- The parts of an instruction's text, in bytes of ASCII.
pub mod Ascii
pub mod Parts
