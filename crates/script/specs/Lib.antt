-- What a text comes to: what an item does, and the lines in turn.
pub mod Layout
pub mod Step
pub mod Taken
pub mod Item
pub mod Text
