pub mod Post
