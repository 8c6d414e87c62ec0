-- Words of ticks.
pub mod Masks
