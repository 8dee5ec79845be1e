-- Laws of scalars, over the precision.

pub mod Scalar
