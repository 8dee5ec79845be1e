-- What a line says, by its words.
pub mod Item
pub mod Next
pub mod Line
