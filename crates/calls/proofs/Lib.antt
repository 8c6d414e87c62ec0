-- Laws of what the operations return, and demand 3.
pub mod Opening
pub mod Fold
pub mod Calls
pub mod Closing
