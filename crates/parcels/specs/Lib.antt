pub mod Reads
pub mod Readers
pub mod Sents
pub mod Lent
pub mod Roles
pub mod Opens
pub mod Drafts
