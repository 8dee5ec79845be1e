-- The text that is printed.
pub mod Text
