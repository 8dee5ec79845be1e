-- From what the calls and the runs promise to what the exported functions leave.
pub mod Calls
pub mod Refused
pub mod Runs
pub mod Unchanged
pub mod Sizes
pub mod Numbered
pub mod NonInterference
pub mod More
pub mod Watches
pub mod Grants
pub mod Sheets
pub mod Replays
