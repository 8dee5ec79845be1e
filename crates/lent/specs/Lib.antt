-- What the calls over a lent machine promise.
pub mod Reply
