-- What the functions of a block answer.
pub mod Steps
pub mod Leaving
pub mod Feeding
