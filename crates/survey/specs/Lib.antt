-- A survey on its way, read after read.
pub mod Post
