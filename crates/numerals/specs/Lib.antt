-- What digits say.
pub mod Number
