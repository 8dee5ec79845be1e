-- What each routine is granted of a period's words, and when routines are turned away.
pub mod Refusal
pub mod Grant
pub mod Promise
