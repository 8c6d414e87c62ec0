-- What the functions of a piece answer.
pub mod Feeding
