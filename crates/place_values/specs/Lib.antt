-- What the buffers say of each place.
pub mod Place
pub mod Seen
