-- What a window mark reads as, places by their numbers, and the laws of the word of marks.

pub mod Within
pub mod Places
pub mod Word
pub mod Replaced
