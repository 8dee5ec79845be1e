-- Laws of transfers, which other crates cite, and of the system registers.

pub mod Transfers
mod SystemRegisters
