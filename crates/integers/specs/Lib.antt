-- What a conversion from or to an integer means on words, over the format. Assumes nothing.
pub mod Integer
