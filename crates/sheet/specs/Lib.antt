-- The register sheet: a line, the page, and what they tell.
pub mod Line
pub mod Sheet
pub mod Telling
