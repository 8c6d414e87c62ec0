-- What the functions on words answer.
pub mod Words
