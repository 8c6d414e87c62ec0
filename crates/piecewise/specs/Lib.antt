-- What a sweep by calls answers, and the calls that it made.
pub mod Post
