-- A word at an address, as the service tool lists it.
pub mod Line
