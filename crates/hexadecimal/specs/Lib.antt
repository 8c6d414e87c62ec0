-- Bytes as hexadecimal digits.
pub mod Digits
