-- Laws of texts in a precision.

pub mod Precision
