-- Laws of digits.
pub mod Digits
