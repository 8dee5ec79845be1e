-- What is told of a place.
pub mod Words
pub mod Place
pub mod Exceptions
