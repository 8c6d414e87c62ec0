-- What a line says, and what reading it leaves in the buffers.
pub mod Frames
pub mod Post
