-- Laws of the pieces of a trace, one after the other, and of the values that are kept between them.
pub mod Pieces
pub mod Taking
pub mod Keeping
pub mod Resting
