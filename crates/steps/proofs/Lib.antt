-- Laws of one line: what the operations answer, and what is printed.
pub mod Answering
pub mod Rest
