-- Laws on the first address, on the words of a double, and on those of a contiguous transfer.
pub mod Start
pub mod Singles
pub mod Block
