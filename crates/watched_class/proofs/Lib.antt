-- Laws of a watched word: its condition, the enabled unit, its class.

pub mod Worded
mod Enables
pub mod Classes
