-- What all pieces of a trace make of a sweep.
pub mod Post
