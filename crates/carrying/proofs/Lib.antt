-- Laws of what a scan prints, of the bytes that are kept, and of scan after scan over the bytes that a read gave.
pub mod Printing
pub mod Keeping
pub mod Carrying
