-- What packing answers, in the terms of the rules.
pub mod Packing
