-- The laws of the writer of a record.
mod Laying
