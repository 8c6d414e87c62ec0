pub mod Placed
pub mod Steps
pub mod PlaceLaws
