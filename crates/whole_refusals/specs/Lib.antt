-- The refusals of a whole sweep.
pub mod Whole
