-- What the functions on words answer, in the terms of the rules.
pub mod Planes
pub mod Detection
