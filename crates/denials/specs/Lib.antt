pub mod Said
pub mod Worded
