-- The processor between calls.
pub mod Arrays
pub mod State
