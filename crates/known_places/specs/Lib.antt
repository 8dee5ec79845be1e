-- The number of known places.
pub mod Count
