-- What is claimed of the definitions that the public contracts cite.
pub mod Values
pub mod Decoding
pub mod Window
pub mod Correct
