-- What is said of the end of a line.
pub mod Ends
