pub mod Turns
pub mod Dealing
pub mod Handing
