-- The marks that register transfers leave.

mod Transfers
