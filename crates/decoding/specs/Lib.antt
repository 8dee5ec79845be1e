-- What a data-processing word names.
pub mod Operation
pub mod Table
