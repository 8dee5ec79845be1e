-- When a call or a run is turned back.
pub mod Limit
