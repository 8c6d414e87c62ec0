-- Laws of pulses, of Gray code and of identities, and tests of all lists of digits.
pub mod DigitTests
pub mod GrayLaws
pub mod PulseLaws
pub mod IdentityLaws
pub mod Dependence
