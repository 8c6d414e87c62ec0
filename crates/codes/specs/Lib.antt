-- What a reply's code says, the code of an altitude, and what is proved of both.
pub mod Pulses
pub mod Gray
pub mod Altitude
pub mod Identity
pub mod Meaning
pub mod Writing
pub mod Depends
