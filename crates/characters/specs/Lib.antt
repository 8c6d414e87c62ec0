-- Hexadecimal digits.
pub mod Characters
