-- Laws of frames: pairs of digits, reading, and reading what was written.
pub mod Pairs
pub mod Filling
pub mod WellFormed
pub mod Reading
pub mod RoundTrip
pub mod Sizes
