-- The marks of one word more of a contiguous transfer.

mod Block
