pub mod Hearing
pub mod Deals
