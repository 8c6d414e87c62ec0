-- The promises are kept.
pub mod Numbers
pub mod Kept
