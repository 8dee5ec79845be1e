-- The crate's laws that belong to no one function. Assumes nothing.
pub mod Squares
pub mod RootDigits
pub mod Sqrt
pub mod RootNear
pub mod RootFormed
pub mod Laws
pub mod Sight
pub mod Values
