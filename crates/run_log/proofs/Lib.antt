-- The laws of a watched run with its log.
pub mod Logging
