-- The laws of the layout.
pub mod Both
pub mod Copied
pub mod Words
