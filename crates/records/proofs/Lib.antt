-- The laws of a record's numbers and marks.
pub mod Laws
pub mod Written
pub mod MarkWords
pub mod Small
