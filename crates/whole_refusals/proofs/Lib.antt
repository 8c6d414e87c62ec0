-- The numbers of a whole sweep, tried in their order.
pub mod Refusing
