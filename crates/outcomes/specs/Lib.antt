-- What becomes of a bracket.
pub mod Outcomes
