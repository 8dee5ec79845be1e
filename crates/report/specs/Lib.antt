-- What is told of a run that ended.
pub mod Words
pub mod Line
