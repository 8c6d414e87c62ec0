-- What was promised to the buyer.
pub mod Calls
pub mod Promises
