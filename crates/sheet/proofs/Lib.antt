-- Laws of lines and pages, and what they tell.
pub mod Lines
pub mod Pages
pub mod Telling
