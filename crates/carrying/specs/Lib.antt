-- What is printed of the bytes that were read, and what is kept of them.
pub mod Failing
pub mod Post
pub mod Text
