-- The definitions that the contracts of the crate cite.
pub mod Answers
pub mod Parsing
pub mod Header
