-- Laws of the survey program: read after read, and the end of the input.
pub mod Reading
