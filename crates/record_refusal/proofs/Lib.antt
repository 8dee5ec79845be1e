-- The laws of a record's fields, and of its refusals.
pub mod Fields
pub mod Refusing
