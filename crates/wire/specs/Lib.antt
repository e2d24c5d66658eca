pub mod Calls
pub mod Lines
pub mod Encoded
pub mod Told
pub mod Reasons
