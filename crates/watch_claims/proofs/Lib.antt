-- Theorems about the definition of the watched run.

pub mod Example
pub mod Exact
pub mod Enabling
