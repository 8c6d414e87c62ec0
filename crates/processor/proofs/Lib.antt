pub mod ProcessorLaws
