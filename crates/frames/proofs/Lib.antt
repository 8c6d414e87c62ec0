-- Laws of bytes put into a buffer, and of lines that are printed.
pub mod Filling
pub mod Printing
pub mod Chunks
