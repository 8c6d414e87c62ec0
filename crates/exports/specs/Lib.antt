-- The answers as numbers.
pub mod Numbers
