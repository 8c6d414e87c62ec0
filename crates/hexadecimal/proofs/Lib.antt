-- Laws of parts put into a buffer one after the other, and of digits.
pub mod Parts
pub mod Digits
