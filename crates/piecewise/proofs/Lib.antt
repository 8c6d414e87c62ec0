-- Laws of lists of calls that grow by one, and of a sweep that is taken so.
pub mod Lists
pub mod Growing
pub mod Piecing
pub mod Turns
