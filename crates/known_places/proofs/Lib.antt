-- The laws of the number of known places.
pub mod Count
