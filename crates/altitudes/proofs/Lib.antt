-- Laws of feet, of the altitude of a code, and of modes.
pub mod Feet
pub mod AltitudeLaws
pub mod MeaningLaws
