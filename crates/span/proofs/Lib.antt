pub mod PartLaws
pub mod Spans
