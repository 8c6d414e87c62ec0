pub mod Four
pub mod Places
pub mod Post
