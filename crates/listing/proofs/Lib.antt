-- Laws on items, and on the words of a line.

pub mod Nexts
pub mod Items
pub mod Splitting
