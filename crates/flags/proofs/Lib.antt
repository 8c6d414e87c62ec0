pub mod BadBytes
pub mod Flagless
pub mod BadBlocks
pub mod Blocks
