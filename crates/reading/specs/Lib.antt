pub mod Inked
pub mod Raw
pub mod Readable
pub mod Answers
pub mod Laws
