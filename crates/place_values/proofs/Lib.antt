-- Laws on the first number that passes a test.
pub mod Order
