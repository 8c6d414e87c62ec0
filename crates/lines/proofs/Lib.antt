-- Laws of a survey: the lines of an input, one by one and in batches, and in any parts.
pub mod Scanning
pub mod Laying
pub mod Batching
pub mod Turns
