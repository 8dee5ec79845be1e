-- Where an unknown place came from, as text.
pub mod Name
pub mod Chain
pub mod Place
