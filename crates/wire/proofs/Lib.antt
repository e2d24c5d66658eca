pub mod Reaching
pub mod Encoding
pub mod Entries
