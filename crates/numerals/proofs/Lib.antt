-- Laws of reading and writing digits.

pub mod Reading
pub mod Digits
pub mod Back
