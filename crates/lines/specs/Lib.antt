-- What a survey prints for an input, and what the lines of a part of the input leave behind.
pub mod Survey
pub mod Post
pub mod Whole
pub mod Batches
