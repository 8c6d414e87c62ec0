-- What the ticks of F1 say of the four places.
pub mod Ticks
