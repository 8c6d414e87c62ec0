-- In the order of the packing: the bits of a byte, eight bytes a word, the exchanges of bits, the planes that they make; and planes of fewer than 64 ticks.
pub mod FlagBits
pub mod Load
pub mod Network
pub mod Gathered
pub mod Parts
