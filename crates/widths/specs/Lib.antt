-- What a conversion between the widths means on words. Assumes nothing.
pub mod Convert
