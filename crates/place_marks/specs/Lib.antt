-- The word of marks.
pub mod Word
