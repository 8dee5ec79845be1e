-- How places are named.
pub mod Place
