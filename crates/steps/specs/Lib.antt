-- What one line makes of a survey, and what it leaves behind.
pub mod Outcomes
pub mod Post
