pub mod Needs
pub mod Examine
