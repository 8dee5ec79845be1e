-- What the watched run promises, demand 3 among it.
pub mod Watch
pub mod Demand
pub mod More
pub mod Promise
