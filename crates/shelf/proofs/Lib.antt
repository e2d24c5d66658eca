pub mod Filing
pub mod Fresh
pub mod Nexts
pub mod Standing
pub mod Serving
