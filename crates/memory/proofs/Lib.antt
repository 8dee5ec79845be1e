-- Laws of the trees of loads and stores, of the words of doubles, of contiguous transfers, and of transfers of one register.

pub mod Trees
pub mod Doubles
pub mod Block
pub mod One
