-- Laws of bytes without a newline.
pub mod Newlines
