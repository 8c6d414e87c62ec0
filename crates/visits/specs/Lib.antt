-- What is visited, and the edges.
pub mod Visits
