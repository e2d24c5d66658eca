pub mod Counting
pub mod Filing
pub mod Rooms
pub mod Deciding
