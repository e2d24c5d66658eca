pub mod Ranged
pub mod Shelved
pub mod Views
