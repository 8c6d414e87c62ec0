-- The contracts of the operations, and demand 3.
pub mod Answers
pub mod Post
pub mod Whole
pub mod OneChain
