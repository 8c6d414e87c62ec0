-- Which refusal holds, test by test.
pub mod Trying
