-- The definitions that the contracts of the crate cite.
pub mod Tree
pub mod Planned
pub mod Steps
