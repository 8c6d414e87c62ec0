-- What is proved of reading and writing codes.
pub mod RoundTrip
