-- The lines of a text and the words of a line.
pub mod Token
