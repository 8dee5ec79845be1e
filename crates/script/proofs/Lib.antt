-- Laws on places that are unknown and on lines.

pub mod Unknown
pub mod Lines
