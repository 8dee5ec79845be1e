-- Laws of names, and what is printed of a place read back.

pub mod Names
pub mod Back
