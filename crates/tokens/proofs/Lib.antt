-- Laws on the words of a line.
pub mod Words
