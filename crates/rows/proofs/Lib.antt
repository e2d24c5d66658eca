pub mod Ranging
pub mod Viewing
pub mod Entries
pub mod Helds
pub mod Buffered
