pub mod Buffers
pub mod Sizes
pub mod Sources
pub mod Ladder
pub mod Walks
pub mod Props
