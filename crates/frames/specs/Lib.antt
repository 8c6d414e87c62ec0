-- Frames as they are written, and what writing them leaves in the buffer.
pub mod Writing
pub mod Post
