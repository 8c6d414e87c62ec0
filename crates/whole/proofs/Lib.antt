-- Laws of a whole sweep in one call: the close behind its pieces, and what it answers.
pub mod Closing
pub mod Answering
