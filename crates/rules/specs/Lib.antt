-- Document 01's rules, in its order. A reader who believes these files needs no other to know what is right.
pub mod Settings
pub mod Lists
pub mod Samples
pub mod Edges
pub mod Replies
pub mod Machine
pub mod Records
pub mod Ranges
pub mod Buffers
pub mod Calls
pub mod Sentences
pub mod Examples
