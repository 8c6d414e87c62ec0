-- Laws of writing, and that reading and writing undo each other.
pub mod WritingLaws
pub mod DigitLaws
pub mod RoundTrip
