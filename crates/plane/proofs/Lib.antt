-- Cases, the bits of a number, the planes that words hold, and the lowest set bit.
pub mod Cases
pub mod BitLaws
pub mod PlaneLaws
pub mod LowestBit
