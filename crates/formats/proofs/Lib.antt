pub mod Spellings
pub mod Decimals
